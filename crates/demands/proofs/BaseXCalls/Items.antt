-- The call for an item comes out right: 1 for no byte, 2, 8, then its fields.
use mathlib.Core.Bool.{Bool, true, false}
use mathlib.Core.List.{List, [], ◌∷◌}
use mathlib.Core.Logic.{◌⊎◌, inl, inr}
use mathlib.Core.Path.{◌≡◌, refl, sym, ap, subst, ◌∙◌}
use Prim.Native.Nat.{ℕ, ◌-◌, ◌<◌}
use native.Mathlib.Omega.{arith}
use lib.Dec.{ltb}
use lib.ListN.{length, drop, length-drop, drop_of_length-le}
use borrow.Author.Tests.{ltb-true, ltb-false, lt-ltb}
use Rattle.std.specs.Prelude.{Option, Some, None, Result, Ok, Err}
use Rattle.std.proofs.lemmas.Bool.Decides.{nat_tests}
use Rattle.wire.specs.Fields.{Got}
use Rattle.wire.specs.declared.Refusal.{Refusal}
use Rattle.wire.specs.declared.Refusal.TheVariants.{MoreBytes, UnknownInstruction, ValueNotAllowed, NoRoom, BadEscape}
use Rattle.basex.specs.declared.Reply.{Reply}
use Rattle.basex.specs.Kinds.{find_of, listed, is_full}
use Rattle.basex.specs.Response.{Item, item_bytes}
use Rattle.basex_response.specs.declared.ItemAt.{ItemAt}
use Rattle.basex_response.specs.declared.ItemAt.TheVariants as item-at
use Rattle.basex_response.specs.Items.{next, item_at}
use Rattle.basex_laws.proofs.Exactly.{told_exactly}
use Rattle.basex_laws.proofs.Listed.{OfFields, next_refuses, next-item}
use Rattle.basex_laws.proofs.Moments.{item_moments}
use Rattle.basex_c.specs.Codes.{lent}
use Rattle.basex_c.specs.Told.{item_told, item_in}
use Rattle.demands.specs.BaseXCalls.{Lendable, Called, telling, refused_with, ComesOutRight, Lists, ItemDue, ItemRead, ItemsEnd, item_called}
use Rattle.demands.proofs.Answered.{refused}
use Rattle.demands.proofs.BaseXCalls.Answers.{refused_as, counts, refuses, tells, in_front}

pub item-some : (i : Item) → 0 < length (item_bytes i)
unfolding item_bytes
item-some i = omega arith

none-next : (full : Bool) → next full [] ≡ Got.refused MoreBytes
unfolding next
none-next full = refl

module _ (kind : ℕ) (s : List ℕ) (at : ℕ) where
  -- of a kind with items, the call asks what `item_at` asks: with no byte that is 1 too
  pub asks : (full : Bool) → Lists kind full → item_in kind s at ≡ item_at full at (length s - at) (next full (drop at s))
  asks full l = grind (arith, nat_tests, l.known, l.list, l.uris, drop_of_length-le s {i = at}, none-next full)

  module _ (told : List ℕ) where
    -- what the call makes of what is asked
    abbrev pub comes : Result ItemAt Refusal → Called
    comes y = telling [] 0 [] told (lent (length told) (item_told at y))

    refused_so : (r : Refusal) → item_in kind s at ≡ Err r → item_called kind s at told ≡ refused_with r [] told
    refused_so r e = ap comes e ∙ refused_as [] 0 [] told r

    -- a kind with items refuses what reading an item refuses
    listed-due : (full : Bool) → Lists kind full → (r : Refusal) → next full (drop at s) ≡ Got.refused r → item_called kind s at told ≡ refused_with r [] told
    listed-due full l r e = refused_so r (asks full l ∙ ap (item_at full at (length s - at)) e)

    pub item_due : (r : Refusal) → ItemDue kind (drop at s) (length told) r → item_called kind s at told ≡ refused_with r [] told
    item_due r (ItemDue.no_byte e) = grind (arith, nat_tests, refused, ap length e, length-drop at s)
    item_due r (ItemDue.unknown h e) = grind (arith, nat_tests, refused, length-drop at s)
    item_due r (ItemDue.unlisted h n reply e o) = grind (arith, nat_tests, refused, length-drop at s)
    item_due r (ItemDue.more full l b) = listed-due full l MoreBytes (((item_moments full).more (drop at s)).1 b)
    item_due r (ItemDue.bad_id full l b) = listed-due full l ValueNotAllowed (((item_moments full).value (drop at s)).1 b)
    item_due r (ItemDue.bad_pair full l b) = listed-due full l BadEscape (((item_moments full).pair (drop at s)).1 b)
    item_due r (ItemDue.no_room full l i rest a e h) =
        ap comes (asks full l ∙ ap (item_at full at (length s - at)) (ap (next full) e ∙ next-item full i rest a)) ∙ rw (lt-ltb (length told) 3 h) (refused_as [] 0 [] told NoRoom)

    module _ (short : Lendable s) where
      abbrev Accepts : Called → Type 0
      Accepts c = ItemRead kind s at told c ⊎ ItemsEnd kind s at told c

      abbrev Rightly : Called → Type 0
      Rightly = ComesOutRight (ItemDue kind (drop at s) (length told)) Accepts [] told

      module _ (full : Bool) (l : Lists kind full) where
        refusal-due : (r : Refusal) → OfFields r → next full (drop at s) ≡ Got.refused r → ItemDue kind (drop at s) (length told) r
        refusal-due r by e = rightly by
          where
            due_as : {q : Refusal} → r ≡ q → (next full (drop at s) ≡ Got.refused q → ItemDue kind (drop at s) (length told) q) → ItemDue kind (drop at s) (length told) r
            due_as z due = subst (ItemDue kind (drop at s) (length told)) (sym z) (due (e ∙ ap Got.refused z))

            rightly : OfFields r → ItemDue kind (drop at s) (length told) r
            rightly (inl z) = due_as z (λ d. ItemDue.more full l (((item_moments full).more (drop at s)).0 d))
            rightly (inr (inl z)) = due_as z (λ d. ItemDue.bad_id full l (((item_moments full).value (drop at s)).0 d))
            rightly (inr (inr z)) = due_as z (λ d. ItemDue.bad_pair full l (((item_moments full).pair (drop at s)).0 d))

        listed-item : (y : Result ItemAt Refusal) → item_at full at (length s - at) (next full (drop at s)) ≡ y → Rightly (comes y)
        listed-item (Err r) e =
            let d = (told_exactly.item_refused full s at r).0 e in
            refuses [] 0 [] told r (refusal-due r (next_refuses full (drop at s) r d) d)
        listed-item (Ok (item-at.End n)) e =
            let d = (told_exactly.item-end full s at n).0 e in
            tells [] 0 [] told 0 [] (λ h. absurd (omega arith)) (λ h. inr (record { full = full; lists = l; rest = drop n s; stands = d.0; counted = refl; untold = refl }))
        listed-item (Ok (item-at.Item id uri text n)) e =
            let t = (told_exactly.item-told full s at id uri text n).0 e in
            tells [] 0 [] told (n - at) (id ∷ uri ∷ text ∷ []) (λ h. ItemDue.no_room full l t.item (drop n s) t.allowed t.stands h)
            (λ h. inl (record {
              full = full;
              lists = l;
              item = t.item;
              rest = drop n s;
              allowed = t.allowed;
              stands = t.stands;
              counted = counts s short (item_bytes t.item) n t.place at t.stands;
              named = t.named;
              uri = t.one;
              text = t.two;
              fields = in_front (id ∷ uri ∷ text ∷ []) told h;
            }))

      pub item : Rightly (item_called kind s at told)
      item = by (ltb at (length s)) refl (find_of kind) refl
        where
          known : ltb at (length s) ≡ true → (n : ℕ) (reply : Reply) → find_of kind ≡ Some (n, reply) → (b : Bool) → listed reply ≡ b → Rightly (item_called kind s at told)
          known e n reply k true z =
              let l : Lists kind (is_full reply) = record { strings = n; reply = reply; known = k; list = z; uris = refl } in
              subst Rightly (ap comes (sym (asks (is_full reply) l))) (listed-item (is_full reply) l (item_at (is_full reply) at (length s - at) (next (is_full reply) (drop at s))) refl)
          known e n reply k false z =
              let d : ItemDue kind (drop at s) (length told) ValueNotAllowed = ItemDue.unlisted (let q = length-drop at s in let h = ltb-true at (length s) e in omega arith) n reply k z in
              ComesOutRight.refused ValueNotAllowed d (item_due ValueNotAllowed d)

          by : (b : Bool) → ltb at (length s) ≡ b → (f : Option (ℕ × Reply)) → find_of kind ≡ f → Rightly (item_called kind s at told)
          by false e f k =
              let d : ItemDue kind (drop at s) (length told) MoreBytes = ItemDue.no_byte (drop_of_length-le s (ltb-false at (length s) e)) in
              ComesOutRight.refused MoreBytes d (item_due MoreBytes d)
          by true e None k =
              let d : ItemDue kind (drop at s) (length told) UnknownInstruction = ItemDue.unknown (let q = length-drop at s in let h = ltb-true at (length s) e in omega arith) k in
              ComesOutRight.refused UnknownInstruction d (item_due UnknownInstruction d)
          by true e (Some (n, reply)) k = known e n reply k (listed reply) refl
