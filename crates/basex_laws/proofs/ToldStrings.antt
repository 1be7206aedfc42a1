-- What is told of a string and of an item of a list.
use Rattle.std.specs.Prelude.{Result, Ok, Err}
use Rattle.basex_string.specs.Answers.{string_there, located, decoded}
use mathlib.Core.Path.{◌≡◌, refl, sym, ap, subst, ◌∙◌}
use mathlib.Core.List.{List, [], ◌∷◌, ◌++◌}
use mathlib.Core.Bool.{Bool}
use mathlib.Core.Logic.{◌↔◌, ◌⊎◌, inl, inr}
use Prim.Native.Nat.{ℕ, ◌+◌, ◌-◌, ◌≤◌, ◌<◌}
use native.Mathlib.Omega.{arith}
use lib.ListN.{length, drop, length-drop}
use Rattle.wire.specs.Fields.{Got}
use Rattle.wire.specs.declared.Refusal.{Refusal}
use Rattle.wire.specs.declared.Refusal.TheVariants.{MoreBytes, NoRoom, BadEscape}
use Rattle.wire.proofs.Splices.{put_at-fits}
use Rattle.basex_string.specs.declared.StringAt.{StringAt}
use Rattle.basex_string.specs.Scan.{reading}
use Rattle.basex_string.proofs.Laws.{next_field, refuses}
use Rattle.basex.specs.Response.{Item, item_bytes}
use Rattle.basex_response.specs.declared.ItemAt.{ItemAt}
use Rattle.basex_response.specs.declared.ItemAt.TheVariants as item-at
use Rattle.basex_response.specs.Items.{Next, next, uri_length, text_length, item_at}
use Rattle.basex_response.proofs.Sizes.{all_of, behind-at, behind-is}
use Rattle.basex_laws.specs.Exactly.{Reads, TooLong, Unread, Located, Decoded, ItemTold}
use Rattle.basex_laws.proofs.Handed.{made}
use Rattle.basex_laws.proofs.Listed.{next_exact, next-item, next-end}
use Rattle.wire.proofs.Branches.{apart}
use Rattle.basex_laws.proofs.Chosen.{exactly}
use Rattle.basex_laws.proofs.Told.{answer, tells, unread_back, reads_back, ten, text-there}

module _ (b : List ℕ) (at : ℕ) where
  abbrev x : Got (List ℕ)
  x = reading (drop at b)

  abbrev tell : List ℕ → ℕ → Result StringAt Refusal
  tell t next = string_there (length t) next

  ends : (t rest : List ℕ) → x ≡ Got.got t rest → drop (length b - length rest) b ≡ rest
  ends t rest e = (next_field b at t rest e).1

  -- judging stores nothing: it needs no room
  none : List ℕ → ℕ
  none t = 0

  located-is : (y : Got (List ℕ)) → located (length b) y ≡ answer Err tell none 0 b y
  unfolding none
  located-is (Got.refused r) = refl
  located-is (Got.got t rest) = refl

  abbrev Locates : Result StringAt Refusal → Type 0
  Locates (Ok m) = Located b at m.len m.next
  Locates (Err r) = reading (drop at b) ≡ Got.refused r

  locates : Locates (located (length b) (reading (drop at b)))
  unfolding none
  locates = subst Locates (sym (located-is x)) (tells Err tell none 0 b Locates x ends unread (λ t n r h. record { text = t; reads = r; long = refl }))
    where
      unread : (r : Refusal) → Unread x none 0 r → x ≡ Got.refused r
      unread r (Unread.refused q e) = e
      unread r (Unread.no_room t) = let h = t.long in absurd (omega arith)

  locates_back : (y : Result StringAt Refusal) → Locates y → located (length b) (reading (drop at b)) ≡ y
  unfolding none
  locates_back (Ok told) l = located-is x ∙ reads_back Err tell none 0 b x told.next l.text l.reads (omega arith) ∙ ap (λ (m : ℕ). string_there m told.next) (sym l.long)
  locates_back (Err r) e = ap (located (length b)) e

  pub string_located : (y : Result StringAt Refusal) → (located (length b) (reading (drop at b)) ≡ y) ↔ Locates y
  string_located y = exactly Locates (located (length b) (reading (drop at b))) locates y (locates_back y)

  module _ (out : List ℕ) (to : ℕ) where
    abbrev need : List ℕ → ℕ
    need t = to + length t

    decoded-is : (y : Got (List ℕ)) → decoded (length b) (length out) to y ≡ answer Err tell need (length out) b y
    decoded-is (Got.refused r) = refl
    decoded-is (Got.got t rest) = refl

    abbrev Decodes : Result StringAt Refusal → Type 0
    Decodes (Ok m) = Decoded b at out to m.len m.next
    Decodes (Err r) = Unread (reading (drop at b)) (λ t. to + length t) (length out) r

    decodes : Decodes (decoded (length b) (length out) to (reading (drop at b)))
    decodes = subst Decodes (sym (decoded-is x)) (tells Err tell need (length out) b Decodes x ends (λ r u. u) read)
      where
        read : (t : List ℕ) (n : ℕ) → Reads x b n t → to + length t ≤ length out → Decoded b at out to (length t) n
        read t n r h = record { text = t; reads = r; long = refl; fits = h; stored = rw r.read (put_at-fits out to t h); there = rw r.read (text-there out to t h) }

    decodes_back : (y : Result StringAt Refusal) → Decodes y → decoded (length b) (length out) to (reading (drop at b)) ≡ y
    decodes_back (Ok m) d =
        let f = d.fits in
        let l = d.long in
        decoded-is x ∙ reads_back Err tell need (length out) b x m.next d.text d.reads (omega arith) ∙ ap (λ (k : ℕ). string_there k m.next) (sym l)
    decodes_back (Err r) u = decoded-is x ∙ unread_back Err tell need (length out) b x r u

    pub string_decoded : (y : Result StringAt Refusal) → (decoded (length b) (length out) to (reading (drop at b)) ≡ y) ↔ Decodes y
    string_decoded y = exactly Decodes (decoded (length b) (length out) to (reading (drop at b))) decodes y (decodes_back y)

    pub string_no_room : (decoded (length b) (length out) to (reading (drop at b)) ≡ Err NoRoom) ↔ TooLong (reading (drop at b)) (λ t. to + length t) (length out)
    string_no_room = (λ e. ten x need (length out) never NoRoom refl ((string_decoded (Err NoRoom)).0 e), λ t. (string_decoded (Err NoRoom)).1 (Unread.no_room t))
      where
        neither : (NoRoom ≡ MoreBytes) ⊎ (NoRoom ≡ BadEscape) → ⊥
        neither (inl e) = apart (cc)
        neither (inr e) = apart (cc)

        never : x ≡ Got.refused NoRoom → ⊥
        never e = neither (refuses (drop at b) NoRoom e)

item-some : (i : Item) → 0 < length (item_bytes i)
unfolding item_bytes
item-some i = omega arith

module _ (full : Bool) (s : List ℕ) (at : ℕ) where
  abbrev Tells : Result ItemAt Refusal → Type 0
  Tells (Ok (item-at.Item id uri text n)) = ItemTold full s at id uri text n
  Tells (Ok (item-at.End n)) = (drop at s ≡ 0 ∷ drop n s) × (n ≡ at + 1)
  Tells (Err r) = next full (drop at s) ≡ Got.refused r

  -- bytes at `at`, and what starts behind them
  module _ (bytes rest : List ℕ) (e : drop at s ≡ bytes ++ rest) where
    there : drop (at + (length s - at - length rest)) s ≡ rest
    there = rw (behind-at s at bytes rest e) (behind-is s at bytes rest e)

    within : 0 < length bytes → at + (length s - at - length rest) ≤ length s
    within h = let a = all_of s at bytes rest e in omega arith

  told : (y : Got Next) → next full (drop at s) ≡ y → Tells (item_at full at (length s - at) y)
  told (Got.refused r) e = e
  told (Got.got Next.end rest) e =
      let d = next_exact full (drop at s) Next.end rest e in
      (d ∙ ap (λ (m : List ℕ). 0 ∷ m) (sym (there (0 ∷ []) rest d)), behind-at s at (0 ∷ []) rest d)
  told (Got.got (Next.item i) rest) e =
      let d = next_exact full (drop at s) (Next.item i) rest e in
      let m = made full i d.0.1 in
      record {
        item = i;
        allowed = d.0;
        stands = d.1 ∙ ap (λ (m : List ℕ). item_bytes i ++ m) (sym (there (item_bytes i) rest d.1));
        place = within (item_bytes i) rest d.1 (item-some i);
        named = refl;
        one = sym m.uri;
        two = sym m.text;
      }

  told_back : (y : Result ItemAt Refusal) → Tells y → item_at full at (length s - at) (next full (drop at s)) ≡ y
  told_back (Err r) e = ap (item_at full at (length s - at)) e
  told_back (Ok (item-at.End n)) e =
      let x : next full (drop at s) ≡ Got.got Next.end (drop n s) = ap (next full) e.0 ∙ next-end full (drop n s) in
      ap (item_at full at (length s - at)) x ∙ ap (λ (m : ℕ). Ok (item-at.End m)) (behind-at s at (0 ∷ []) (drop n s) e.0 ∙ sym e.1)
  told_back (Ok (item-at.Item id uri text n)) t =
      let i = t.item in
      let m = made full i t.allowed.1 in
      let x : next full (drop at s) ≡ Got.got (Next.item i) (drop n s) = ap (next full) t.stands ∙ next-item full i (drop n s) t.allowed in
      let k : at + (length s - at - length (drop n s)) ≡ n = place (length-drop n s) (all_of s at (item_bytes i) (drop n s) t.stands) t.place (item-some i) in
      let u : uri_length full i ≡ uri = sym m.uri ∙ sym t.one in
      let v : text_length full i ≡ text = sym m.text ∙ sym t.two in
      ap (item_at full at (length s - at)) x ∙ (λ j. (Ok (item-at.Item (sym t.named j) (u j) (v j) (k j))))
    where
      place : {d k : ℕ} → d ≡ length s - n → k + d ≡ length s - at → n ≤ length s → 0 < k → at + (length s - at - d) ≡ n
      place p q h z = omega arith

  pub item-told : (y : Result ItemAt Refusal) → (item_at full at (length s - at) (next full (drop at s)) ≡ y) ↔ Tells y
  item-told y = exactly Tells (item_at full at (length s - at) (next full (drop at s))) (told (next full (drop at s)) refl) y (told_back y)
