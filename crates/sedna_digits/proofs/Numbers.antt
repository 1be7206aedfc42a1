-- The number that digits are.
use mathlib.Core.Path.{◌≡◌}
use mathlib.Core.List.{List, [], ◌∷◌, ◌++◌}
use Prim.Native.Nat.{ℕ, ◌+◌, ◌*◌, ◌^◌, ◌≤◌, ◌<◌}
use native.Mathlib.Nat.{mul-le-mul_right, pow-suc}
use native.Mathlib.Omega.{arith}
use lib.ListN.{length, length-append}
use lib.Pow.{pow-add}
use Rattle.sedna_digits.specs.Numbers.{number, AreDigits}

pub number_below : (ds : List ℕ) → AreDigits ds → number ds < 10 ^ length ds
unfolding number
number_below [] h = omega arith
number_below (d ∷ ds) h = rw pow-suc (below (10 ^ length ds) (number ds) (number_below ds h.1) (mul-le-mul_right (10 ^ length ds) h.0))
  where
    below : (p m : ℕ) → m < p → d * p ≤ 9 * p → d * p + m < p * 10
    below p m a b = omega arith

pub number_append : (xs ys : List ℕ) → number (xs ++ ys) ≡ number xs * 10 ^ length ys + number ys
unfolding number
number_append [] ys = none (10 ^ length ys) (number ys)
  where
    none : (p m : ℕ) → m ≡ 0 * p + m
    none p m = omega arith
number_append (x ∷ xs) ys = rw (number_append xs ys, length-append xs ys, pow-add 10 (length xs) (length ys)) (places (10 ^ length xs) (10 ^ length ys) (number xs) (number ys))
  where
    places : (p q m n : ℕ) → x * (p * q) + (m * q + n) ≡ (x * p + m) * q + n
    places p q m n = omega arith
