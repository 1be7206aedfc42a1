-- One item, or the end of a list: 1, 8 and 13 exactly, and the end exactly at 00.
use mathlib.Core.Path.{◌≡◌, refl, sym, ap, ◌∙◌}
use mathlib.Core.List.{List, [], ◌∷◌, ◌++◌}
use mathlib.Core.Bool.{Bool, true, false}
use mathlib.Core.Logic.{◌↔◌, ◌≢◌}
use Prim.Native.Nat.{ℕ, ◌<◌}
use native.Mathlib.Omega.{arith}
use lib.Dec.{eqb}
use lib.ListN.{length, length-append}
use borrow.Author.Tests.{eq-eqb, ne_eqb}
use Rattle.wire.specs.Bytes.{if}
use Rattle.wire.specs.Fields.{Got}
use Rattle.wire.specs.declared.Refusal.{Refusal}
use Rattle.wire.specs.declared.Refusal.TheVariants.{MoreBytes, ValueNotAllowed, BadEscape}
use Rattle.basex.specs.Kinds.{id_allowed, item_strings}
use Rattle.basex.specs.Response.{item_bytes}
use Rattle.basex_response.specs.Items.{Next, next}
use Rattle.basex_laws.specs.Moments.{Encoded, Begun, BadTexts, next_bytes, NextAllowed, BadId, BadItem, ItemMoments}
use Rattle.basex_laws.proofs.Listed.{id_not_zero, next_exact, next-item, next-end}
use Rattle.basex_laws.proofs.Moments.Order.{begun-map}
use Rattle.basex_laws.proofs.Moments.Breaking.{breaking}
use Rattle.basex_laws.proofs.Moments.Tagged.{begun_tagged, tagged, tagged_more, tagged_value, tagged_pair}

module _ (full : Bool) where
  pub next-is : (s : List ℕ) (x : Next) (rest : List ℕ) → (next full s ≡ Got.got x rest) ↔ (NextAllowed full x × (s ≡ next_bytes x ++ rest))
  next-is s (Next.item i) rest = (next_exact full s (Next.item i) rest, λ h. ap (next full) h.1 ∙ next-item full i rest h.0)
  next-is s Next.end rest = (λ e. (tt, next_exact full s Next.end rest e), λ h. ap (next full) h.1 ∙ next-end full rest)

  -- the item with that id
  abbrev made : ℕ → List (List ℕ) → Next
  made id ts = Next.item (record { id = id; texts = ts })

  not_zero : (id : ℕ) → id_allowed id ≡ true → id ≢ 0
  not_zero id a q = let b = id_not_zero full id a in let c = eq-eqb id 0 q in let z : ◌≡◌ {A = ℕ} 0 1 = cc in omega arith

  -- behind a byte other than 00 the item that it opens is refused
  at-id : (id : ℕ) (s : List ℕ) (r : Refusal) → (next full (id ∷ s) ≡ Got.refused r) ↔ (id ≢ 0) × (tagged (item_strings full id) s (made id) (id_allowed id) ≡ Got.refused r)
  unfolding next
  at-id id s r = (forth (eqb id 0) refl, λ h. rw (ne_eqb id 0 h.0) h.1)
    where
      forth : (b : Bool) → eqb id 0 ≡ b → if (eqb id 0) (Got.got Next.end s) (tagged (item_strings full id) s (made id) (id_allowed id)) ≡ Got.refused r → (id ≢ 0)
          × (tagged (item_strings full id) s (made id) (id_allowed id) ≡ Got.refused r)
      forth true p e = let d = rw p at e in let z : ◌≡◌ {A = ℕ} 0 1 = cc in absurd (omega arith)
      forth false p e = (λ q. let b = eq-eqb id 0 q in let z : ◌≡◌ {A = ℕ} 0 1 = cc in omega arith, rw p at e)

  none : next full [] ≡ Got.refused MoreBytes
  unfolding next
  none = refl

  -- another refusal than 1 wants a byte
  not_none : (r : Refusal) → (r ≡ MoreBytes → ⊥) → next full [] ≡ Got.refused r → ⊥
  not_none r other e = let d : Got.refused MoreBytes ≡ Got.refused r = sym none ∙ e in let z : r ≡ MoreBytes = cc in other z

  next_more : (s : List ℕ) → (next full s ≡ Got.refused MoreBytes) ↔ Begun (Encoded (NextAllowed full) next_bytes) s
  unfolding item_bytes
  next_more [] = (λ e. record { missing = 0 ∷ []; some = omega arith; whole = (Next.end, tt, refl) }, λ h. none)
  next_more (id ∷ s) = (forth, λ h. back h.whole.0 h.whole.1 h.missing h.some h.whole.2)
    where
      forth : next full (id ∷ s) ≡ Got.refused MoreBytes → Begun (Encoded (NextAllowed full) next_bytes) (id ∷ s)
      forth e =
          let g = (tagged_more (item_strings full id) s (made id) (id_allowed id)).0 ((at-id id s MoreBytes).0 e).1 in
          begun-map (λ y h. (made h.0.0 h.0.1, h.1, h.2)) ((begun_tagged id_allowed (item_strings full) id s).0 g)

      back : (x : Next) → NextAllowed full x → (more : List ℕ) → 0 < length more → next_bytes x ≡ id ∷ (s ++ more) → next full (id ∷ s) ≡ Got.refused MoreBytes
      back Next.end a more k p = let t : [] ≡ s ++ more = cc in absurd (omega (arith, ap length t, length-append s more))
      back (Next.item i) a more k p =
          let g = (begun_tagged id_allowed (item_strings full) id s).1 (record { missing = more; some = k; whole = ((i.id, i.texts), a, p) }) in
          (at-id id s MoreBytes).1 (not_zero id g.0, (tagged_more (item_strings full id) s (made id) (id_allowed id)).1 g)

  value-is : (s : List ℕ) → (next full s ≡ Got.refused ValueNotAllowed) ↔ BadId s
  value-is s = (forth s, λ h. ap (next full) h.stands ∙ (at-id h.id h.rest ValueNotAllowed).1 (h.not_end, (tagged_value _ _ (made h.id) (id_allowed h.id)).1 h.other))
    where
      forth : (s : List ℕ) → next full s ≡ Got.refused ValueNotAllowed → BadId s
      forth [] e = absurd (not_none ValueNotAllowed (λ (p : ValueNotAllowed ≡ MoreBytes). let z : ◌≡◌ {A = ℕ} 0 1 = cc in omega arith) e)
      forth (id ∷ s) e =
          let d = (at-id id s ValueNotAllowed).0 e in
          record { id = id; rest = s; stands = refl; not_end = d.0; other = (tagged_value _ _ (made id) (id_allowed id)).0 d.1 }

  pair_is : (s : List ℕ) → (next full s ≡ Got.refused BadEscape) ↔ BadItem full s
  pair_is s = (forth s, λ h. ap (next full) h.stands ∙ back h.id h.left h.allowed h.bad)
    where
      forth : (s : List ℕ) → next full s ≡ Got.refused BadEscape → BadItem full s
      forth [] e = absurd (not_none BadEscape (λ (p : BadEscape ≡ MoreBytes). let z : ◌≡◌ {A = ℕ} 0 1 = cc in omega arith) e)
      forth (id ∷ s) e =
          let d = (tagged_pair (item_strings full id) s (made id) (id_allowed id)).0 ((at-id id s BadEscape).0 e).1 in
          record { id = id; left = s; stands = refl; allowed = d.0; bad = d.1 }

      back : (id : ℕ) (left : List ℕ) → id_allowed id ≡ true → BadTexts (item_strings full id) left → next full (id ∷ left) ≡ Got.refused BadEscape
      back id left a b = (at-id id left BadEscape).1 (not_zero id a, (tagged_pair (item_strings full id) left (made id) (id_allowed id)).1 (a, b))

  pub item_moments : ItemMoments full
  item_moments = record {
    end = λ s rest. (λ e. ((next-is s Next.end rest).0 e).1, λ p. (next-is s Next.end rest).1 (tt, p));
    more = next_more;
    broken = breaking (next full) (NextAllowed full) next_bytes next-is next_more none;
    value = value-is;
    pair = pair_is;
  }
