-- Items, then 00: 1 exactly for a beginning of a list, 8 and 13 exactly where an item behind whole ones has them.
use mathlib.Core.Path.{◌≡◌, refl, sym, ap, ◌∙◌}
use mathlib.Core.List.{List, [], ◌∷◌, ◌++◌, append_assoc, flat_map}
use mathlib.Core.Bool.{Bool}
use mathlib.Core.Logic.Iff
use mathlib.Core.Logic.{◌↔◌, ◌⊎◌, inl, inr}
use Prim.Native.Nat.{ℕ, zero, suc, ◌≤◌, ◌<◌}
use native.Mathlib.Omega.{arith}
use lib.ListN.{length, length-append}
use Rattle.wire.specs.Fields.{Got, Field, go_on, give}
use Rattle.wire.specs.declared.Refusal.{Refusal}
use Rattle.wire.specs.declared.Refusal.TheVariants.{MoreBytes}
use Rattle.basex.specs.Response.{Item, item_bytes, items_bytes, ItemsAllowed}
use Rattle.basex.specs.Texts.{strings}
use Rattle.basex_response.specs.Items.{Next, next, on_next, items}
use Rattle.basex_laws.specs.Moments.{Encoded, Begun, next_bytes, NextAllowed}
use Rattle.basex_laws.proofs.Moments.Items.{next-is, item_moments}
use Rattle.basex_laws.proofs.Moments.Order.{Joined, begun-map, begun-joined, stops, made}

-- "items, then 00"
abbrev pub whole : List Item → List ℕ
whole is = items_bytes is ++ (0 ∷ [])

module _ (full : Bool) where
  -- what follows an item, and the end
  abbrev after : ℕ → Next → Field (List Item)
  after n (Next.item i) s = go_on (items n full s) (λ is. give (i ∷ is))
  after n Next.end s = Got.got [] s

  step : (n : ℕ) (s : List ℕ) → items (suc n) full s ≡ go_on (next full s) (after n)
  unfolding items
  step n s = by (next full s)
    where
      by : (x : Got Next) → on_next x (λ i rest. go_on (items n full rest) (λ is. give (i ∷ is))) (give []) ≡ go_on x (after n)
      by (Got.refused r) = refl
      by (Got.got (Next.item i) rest) = refl
      by (Got.got Next.end rest) = refl

  shorter : (s : List ℕ) (x : Next) (rest : List ℕ) → next full s ≡ Got.got x rest → length rest < length s
  unfolding item_bytes
  shorter s (Next.item i) rest e = let l = ap length ((next-is full s (Next.item i) rest).0 e).1 in omega (arith, length-append (strings i.texts) rest)
  shorter s Next.end rest e = let l = ap length ((next-is full s Next.end rest).0 e).1 in omega arith

  -- refused at the next item, or behind it
  further : (n : ℕ) (s : List ℕ) (r : Refusal) (First : Type 0) (Then : Next → List ℕ → Type 0) → (next full s ≡ Got.refused r) ↔ First
      → ((i : Item) (rest : List ℕ) → length rest < length s → (items n full rest ≡ Got.refused r) ↔ Then (Next.item i) rest) → ((rest : List ℕ) → Then Next.end rest → ⊥)
      → (items (suc n) full s ≡ Got.refused r) ↔ (First ⊎ Joined (NextAllowed full) next_bytes Then s)
  further n s r First Then first later never = rw (step n s) (stops (NextAllowed full) next_bytes s (next full s) (after n) (next-is full s) r First Then first by)
    where
      by : (x : Next) (rest : List ℕ) → next full s ≡ Got.got x rest → (after n x rest ≡ Got.refused r) ↔ Then x rest
      by (Next.item i) rest e = Iff.trans (made (items n full rest) (λ is. i ∷ is) r) (later i rest (shorter s (Next.item i) rest e))
      by Next.end rest e = (λ d. let z : ◌≡◌ {A = ℕ} 0 1 = cc in absurd (omega arith), λ t. absurd (never rest t))

  -- the encodings behind an item: the rest of the list
  abbrev Behind : Next → List ℕ → Type 0
  Behind (Next.item i) y = Encoded (ItemsAllowed full) whole y
  Behind Next.end y = y ≡ []

  behind-some : (x : Next) → NextAllowed full x → (y : List ℕ) × Behind x y
  behind-some (Next.item i) a = (whole [], ([], tt, refl))
  behind-some Next.end a = ([], refl)

  lists_forth : (e : List ℕ) → Joined (NextAllowed full) next_bytes Behind e → Encoded (ItemsAllowed full) whole e
  unfolding flat_map
  lists_forth e j = by j.value j.left j.good j.stands j.then
    where
      by : (x : Next) (left : List ℕ) → NextAllowed full x → e ≡ next_bytes x ++ left → Behind x left → Encoded (ItemsAllowed full) whole e
      by (Next.item i) left a p t = (i ∷ t.0, (a, t.1), append_assoc (item_bytes i) (items_bytes t.0) (0 ∷ []) ∙ ap (λ (l : List ℕ). item_bytes i ++ l) t.2 ∙ sym p)
      by Next.end left a p t = ([], tt, ap (λ (l : List ℕ). 0 ∷ l) (sym t) ∙ sym p)

  lists_back : (e : List ℕ) → Encoded (ItemsAllowed full) whole e → Joined (NextAllowed full) next_bytes Behind e
  unfolding flat_map
  lists_back e h = by h.0 h.1 h.2
    where
      by : (is : List Item) → ItemsAllowed full is → whole is ≡ e → Joined (NextAllowed full) next_bytes Behind e
      by [] a p = record { value = Next.end; left = []; good = tt; stands = sym p; then = refl }
      by (i ∷ is) a p = record { value = Next.item i; left = whole is; good = a.0; stands = sym p ∙ append_assoc (item_bytes i) (items_bytes is) (0 ∷ []); then = (is, a.1, refl) }

  pub list-more : (n : ℕ) (s : List ℕ) → length s ≤ n → (items n full s ≡ Got.refused MoreBytes) ↔ Begun (Encoded (ItemsAllowed full) whole) s
  unfolding items flat_map
  list-more zero [] h = (λ e. record { missing = 0 ∷ []; some = omega arith; whole = ([], tt, refl) }, λ b. refl)
  list-more zero (b ∷ s) h = absurd (omega arith)
  list-more (suc n) s h =
      Iff.trans (further n s MoreBytes (Begun (Encoded (NextAllowed full) next_bytes) s) (λ x. Begun (Behind x)) ((item_moments full).more s) (λ i rest l. list-more n rest (omega arith)) never)
      (Iff.trans (begun-joined (NextAllowed full) next_bytes Behind s behind-some) (begun-map lists_forth, begun-map lists_back))
    where
      never : (rest : List ℕ) → Begun (Behind Next.end) rest → ⊥
      never rest b = let k = b.some in omega (arith, ap length b.whole, length-append rest b.missing)

  -- another refusal of an item is one of the list behind whole items
  module _ (r : Refusal) (other : r ≡ MoreBytes → ⊥) (Bad : List ℕ → Type 0) (bad : (s : List ℕ) → (next full s ≡ Got.refused r) ↔ Bad s) where
    abbrev Later : Next → List ℕ → Type 0
    Later (Next.item i) s = Joined (ItemsAllowed full) items_bytes (λ is. Bad) s
    Later Next.end s = ⊥

    later_forth : (s : List ℕ) → Bad s ⊎ Joined (NextAllowed full) next_bytes Later s → Joined (ItemsAllowed full) items_bytes (λ is. Bad) s
    unfolding flat_map
    later_forth s (inl b) = record { value = []; left = s; good = tt; stands = refl; then = b }
    later_forth s (inr j) = by j.value j.left j.good j.stands j.then
      where
        by : (x : Next) (left : List ℕ) → NextAllowed full x → s ≡ next_bytes x ++ left → Later x left → Joined (ItemsAllowed full) items_bytes (λ is. Bad) s
        by (Next.item i) left a p t = record {
          value = i ∷ t.value;
          left = t.left;
          good = (a, t.good);
          stands = p ∙ ap (λ (l : List ℕ). item_bytes i ++ l) t.stands
              ∙ sym (append_assoc (item_bytes i) (items_bytes t.value) t.left);
          then = t.then;
        }
        by Next.end left a p t = absurd t

    later_back : (s : List ℕ) → Joined (ItemsAllowed full) items_bytes (λ is. Bad) s → Bad s ⊎ Joined (NextAllowed full) next_bytes Later s
    unfolding flat_map
    later_back s j = by j.value j.left j.good j.stands j.then
      where
        by : (is : List Item) (left : List ℕ) → ItemsAllowed full is → s ≡ items_bytes is ++ left → Bad left → Bad s ⊎ Joined (NextAllowed full) next_bytes Later s
        by [] left a p b = inl (rw p b)
        by (i ∷ is) left a p b = inr (record {
          value = Next.item i;
          left = items_bytes is ++ left;
          good = a.0;
          stands = p ∙ append_assoc (item_bytes i) (items_bytes is) left;
          then = record { value = is; left = left; good = a.1; stands = refl; then = b };
        })

    pub list-bad : (n : ℕ) (s : List ℕ) → length s ≤ n → (items n full s ≡ Got.refused r) ↔ Joined (ItemsAllowed full) items_bytes (λ is. Bad) s
    unfolding items next
    list-bad zero [] h = (λ e. let z : r ≡ MoreBytes = cc in absurd (other z), λ j. absurd (none j.value j.left j.stands j.then))
      where
        none : (is : List Item) (left : List ℕ) → [] ≡ items_bytes is ++ left → Bad left → ⊥
        none is [] p b = let e : Got.refused MoreBytes ≡ Got.refused r = (bad []).1 b in let z : r ≡ MoreBytes = cc in other z
        none is (c ∷ left) p b = omega (arith, ap length p, length-append (items_bytes is) (c ∷ left))
    list-bad zero (b ∷ s) h = absurd (omega arith)
    list-bad (suc n) s h = Iff.trans (further n s r (Bad s) Later (bad s) (λ i rest l. list-bad n rest (omega arith)) (λ rest t. t)) (later_forth s, later_back s)
