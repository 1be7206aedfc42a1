-- An item where it stands in a slice.
use Rattle.std.specs.Prelude.{Ok, Err}
use mathlib.Core.Path.{◌≡◌, refl, sym, ap, ◌∙◌}
use mathlib.Core.Bool.{Bool, true, false}
use mathlib.Core.List.{List}
use Prim.Native.Nat.{ℕ, ◌+◌, ◌-◌, ◌≤◌, ◌<◌, min}
use native.Mathlib.Omega.{arith}
use lib.ListN.{length, get_or, drop, drop_of_length-le, length-drop}
use borrow.Author.Tests.{eq-eqb, ne_eqb}
use Rattle.wire.specs.Bytes.{if}
use Rattle.wire.specs.Fields.{Got}
use Rattle.wire.specs.declared.Refusal.{Refusal}
use Rattle.wire.specs.declared.Refusal.TheVariants.{MoreBytes, ValueNotAllowed}
use Rattle.basex_string.proofs.Steps.{here}
use Rattle.basex.specs.declared.TwoAt.{TwoAt}
use Rattle.basex.specs.Kinds.{id_allowed, has_uri, item_strings}
use Rattle.basex.specs.Texts.{texts, two_at}
use Rattle.basex_response.specs.declared.ItemAt.TheVariants as item-at
use Rattle.basex_response.specs.Items.{next, item_at}
use Rattle.basex_response.proofs.Sizes.{Two, two_here, two_not}
use Rattle.basex_response.proofs.Lists.{told}

-- an item's strings: a URI makes them two
abbrev strings_of : Bool → ℕ
strings_of u = if u 2 1

two-of : (u : Bool) → strings_of u ≡ 2 → u ≡ true
two-of true e = refl
two-of false e = absurd (omega arith)

one_of : (u : Bool) → (strings_of u ≡ 2 → ⊥) → u ≡ false
one_of true e = absurd (e refl)
one_of false e = refl

at_most_two : (u : Bool) → strings_of u ≤ 2
at_most_two true = omega arith
at_most_two false = omega arith

-- what `item_at` answers, as it goes
module _ (full : Bool) (b : List ℕ) (at : ℕ) where
  pub past : length b ≤ at → Err MoreBytes ≡ item_at full at (length b - at) (next full (drop at b))
  unfolding next
  past h = rw (drop_of_length-le b h) refl

  module _ (h : at < length b) where
    pub ended : get_or b at 0 ≡ 0 → Ok (item-at.End (at + 1)) ≡ item_at full at (length b - at) (next full (drop at b))
    unfolding next
    ended e =
        let n : at + 1 ≡ at + (length b - at - length (drop (at + 1) b)) = omega (arith, length-drop (at + 1) b) in
        rw (here b at h) (rw (eq-eqb _ _ e) (ap (λ (m : ℕ). Ok (item-at.End m)) n))

    module _ (k : get_or b at 0 ≡ 0 → ⊥) where
      pub not_allowed : id_allowed (get_or b at 0) ≡ false → Err ValueNotAllowed ≡ item_at full at (length b - at) (next full (drop at b))
      unfolding next
      not_allowed g = rw (here b at h) (rw (ne_eqb _ _ k) (rw g refl))

      module _ (g : id_allowed (get_or b at 0) ≡ true) where
        goes : next full (drop at b) ≡ told (get_or b at 0) (texts (item_strings full (get_or b at 0)) (drop (at + 1) b))
        unfolding next
        goes = rw (here b at h) (rw (ne_eqb _ _ k) (rw g refl))

        module _ (n : ℕ) (e : n ≡ item_strings full (get_or b at 0)) where
          few : n ≤ 2
          few = let m = at_most_two (has_uri full (get_or b at 0)) in omega arith

          reads : (x : Got (List (List ℕ))) → texts n (drop (at + 1) b) ≡ x → next full (drop at b) ≡ told (get_or b at 0) x
          reads x p = goes ∙ ap (told (get_or b at 0)) (ap (λ (m : ℕ). texts m (drop (at + 1) b)) (sym e) ∙ p)

          pub texts-refused : (r : Refusal) → two_at (at + 1) (length b - (at + 1)) (texts (min n 2) (drop (at + 1) b)) ≡ Err r
              → Err r ≡ item_at full at (length b - at) (next full (drop at b))
          texts-refused r t = rw (reads _ (two_not b (at + 1) n few r t)) refl

          module _ (found : TwoAt) (t : two_at (at + 1) (length b - (at + 1)) (texts (min n 2) (drop (at + 1) b)) ≡ Ok found) where
            ends : (w : Two b (at + 1) n found) → found.next ≡ at + (length b - at - length w.rest)
            ends w = let k = w.ends in let l = w.whole in omega arith

            pub with_uri : n ≡ 2 → Ok (item-at.Item (get_or b at 0) found.first found.second found.next) ≡ item_at full at (length b - at) (next full (drop at b))
            with_uri z =
                let w = two_here b (at + 1) n few found t in
                let u = two-of (has_uri full (get_or b at 0)) (sym e ∙ z) in
                rw (reads _ w.got) (rw u (cc (w.one, w.two, ends w)))

            pub without_uri : (n ≡ 2 → ⊥) → Ok (item-at.Item (get_or b at 0) 0 found.first found.next) ≡ item_at full at (length b - at) (next full (drop at b))
            without_uri z =
                let w = two_here b (at + 1) n few found t in
                let u = one_of (has_uri full (get_or b at 0)) (λ p. z (e ∙ p)) in
                rw (reads _ w.got) (rw u (cc (w.one, ends w)))
