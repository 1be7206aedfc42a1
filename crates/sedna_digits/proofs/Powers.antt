-- Powers of ten.
use mathlib.Core.Path.{◌≡◌, ap, ◌∙◌}
use Prim.Native.Nat.{ℕ, ◌^◌, ◌≤◌, min}
use native.Mathlib.Omega.{arith}

-- up to 15 a power is that of its number
pub power_is : (k r : ℕ) → k ≤ 15 → r ≡ 10 ^ min k 15 → r ≡ 10 ^ k
power_is k r h e = let m : min k 15 ≡ k = omega arith in e ∙ ap (λ (n : ℕ). 10 ^ n) m
