-- Numbers below a bound, and those from one on.
use mathlib.Core.Bool.{Bool, true, false}
use mathlib.Core.Path.{◌≡◌, refl, ap, ◌∙◌}
use Prim.Native.Nat.{ℕ, zero, suc, ◌+◌, ◌≤◌, ◌<◌}
use native.Mathlib.Omega.{arith}
use borrow.Author.Tests.{ltb-true, ltb-false}
use lib.Dec.{ltb}
use Rattle.wire.specs.Bytes.{if}
use Rattle.wire.proofs.Branches.{both}

-- a test of all numbers below n
abbrev pub up_to : (ℕ → Bool) → ℕ → Bool
up_to f zero = true
up_to f (suc n) = if (f n) (up_to f n) false

pub below : (f : ℕ → Bool) (n k : ℕ) → up_to f n ≡ true → k < n → f k ≡ true
below f zero k h l = absurd (omega arith)
below f (suc n) k h l = by (ltb k n) refl (λ g. below f n k ((both (f n) (up_to f n)).0 h).1 g)
  where
    by : (t : Bool) → ltb k n ≡ t → (k < n → f k ≡ true) → f k ≡ true
    by true e sooner = sooner (ltb-true k n e)
    by false e sooner =
        let g : n ≤ k = ltb-false k n e in
        let same : k ≡ n = omega arith in
        ap f same ∙ ((both (f n) (up_to f n)).0 h).0

-- p is none of the n numbers from b on, as a `match` hands that to its `_`
abbrev pub NoneFrom : ℕ → ℕ → ℕ → Type 0
NoneFrom p b zero = Unit {0}
NoneFrom p b (suc n) = NoneFrom p b n × (p ≡ b + n → ⊥)

pub passed : (p b n : ℕ) → b ≤ p → NoneFrom p b n → b + n ≤ p
passed p b zero l none = omega arith
passed p b (suc n) l none = let below : b + n ≤ p = passed p b n l none.0 in omega (arith, none.1)
