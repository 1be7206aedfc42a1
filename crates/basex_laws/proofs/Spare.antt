-- Texts given where some are taken: those beyond are all empty, or one is spare.
use mathlib.Core.Path.{◌≡◌, refl, sym, ap}
use mathlib.Core.List.{List, [], ◌∷◌, ◌++◌, flatten}
use mathlib.Core.Bool.{Bool, true, false}
use Prim.Native.Nat.{ℕ, zero, suc, ◌≤◌, ◌<◌}
use native.Mathlib.Omega.{arith}
use lib.Dec.{eqb}
use lib.ListN.{length, take, drop, get_or, length-append}
use borrow.Author.Tests.{eqb-true, eqb-false, eq-eqb, ne_eqb}
use Rattle.basex.specs.Texts.{unused}
use Rattle.basex_request.proofs.Taken.{beyond}
use Rattle.basex_laws.specs.Exactly.{Spare}

spare-within : (g : List (List ℕ)) (n : ℕ) → (length (flatten (drop n g)) ≡ 0 → ⊥) → Spare n g
unfolding flatten
spare-within [] zero h = absurd (h refl)
spare-within [] (suc n) h = absurd (h refl)
spare-within (t ∷ g) zero h = by (spare-within g zero) (eqb (length t) 0) refl
  where
    later : Spare zero g → Spare zero (t ∷ g)
    later s = record { number = suc s.number; beyond = omega arith; filled = s.filled }

    by : ((length (flatten g) ≡ 0 → ⊥) → Spare zero g) → (f : Bool) → eqb (length t) 0 ≡ f → Spare zero (t ∷ g)
    by more true e =
        let z = eqb-true (length t) 0 e in
        let l = length-append t (flatten g) in
        later (more (λ (k : length (flatten g) ≡ 0). h (omega arith)))
    by more false e =
        let z = eqb-false (length t) 0 e in
        let p : 0 < length t = omega arith in
        record { number = 0; beyond = omega arith; filled = p }
spare-within (t ∷ g) (suc n) h =
    let s = spare-within g n h in
    let b = s.beyond in
    record { number = suc s.number; beyond = omega arith; filled = s.filled }

module _ (g : List (List ℕ)) (n : ℕ) where
  pub spare-found : unused n g ≡ false → Spare n g
  spare-found u = spare-within g n (eqb-false (length (flatten (drop n g))) 0 u)

  pub spare-unused : Spare n g → unused n g ≡ false
  spare-unused s =
      let b = beyond g n s.number s.beyond in
      let f = s.filled in
      ne_eqb _ _ (λ (z : length (flatten (drop n g)) ≡ 0). omega arith)

empty : (t : List ℕ) → length t ≡ 0 → t ≡ []
empty [] e = refl
empty (x ∷ t) e = absurd (omega arith)

-- where none is spare, those that are not taken are empty
pub none-spare : (g : List (List ℕ)) (n k : ℕ) → unused n g ≡ true → n ≤ k → get_or g k [] ≡ []
none-spare g n k u h =
    let z = eqb-true (length (flatten (drop n g))) 0 u in
    let b = beyond g n k h in
    empty (get_or g k []) (omega arith)

-- texts as they are given, empty ones behind them: all are taken, and none is spare
pub given_back : (ts g : List (List ℕ)) → length ts ≤ length g → ((k : ℕ) → k < length g → get_or ts k [] ≡ get_or g k []) → (take (length ts) g ≡ ts) × (unused (length ts) g ≡ true)
unfolding flatten
given_back [] [] h e = (refl, refl)
given_back [] (t ∷ g) h e =
    let i = given_back [] g (omega arith) (λ k l. e (suc k) (omega arith)) in
    let z = eqb-true (length (flatten g)) 0 i.1 in
    let y : length t ≡ 0 = ap length (sym (e 0 (omega arith))) in
    let l = length-append t (flatten g) in
    (refl, eq-eqb (length (t ++ flatten g)) 0 (omega arith))
given_back (u ∷ ts) [] h e = absurd (omega arith)
given_back (u ∷ ts) (t ∷ g) h e =
    let i = given_back ts g (omega arith) (λ k l. e (suc k) (omega arith)) in
    (λ j. sym (e 0 (omega arith)) j ∷ i.0 j, i.1)
