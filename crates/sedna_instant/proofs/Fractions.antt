-- Up to nine digits are kept whole, and stay below 10 ^ 9 when they are filled up to nine.
use mathlib.Core.List.{List}
use mathlib.Core.Path.{◌≡◌, ap}
use Prim.Native.Nat.{ℕ, ◌+◌, ◌-◌, ◌*◌, ◌^◌, ◌≤◌, ◌<◌}
use native.Mathlib.Nat.{one-le-pow, mul-lt-mul_of_pos_right}
use native.Mathlib.Omega.{arith}
use lib.ListN.{length, drop}
use lib.Pow.{pow-add}
use Rattle.sedna_digits.specs.declared.Run.{Run}
use Rattle.sedna_digits.specs.Digits.{run, digits_at}
use Rattle.sedna_digits.proofs.Runs.{run_below}

pub filled_up : (n k : ℕ) → k ≤ 9 → n < 10 ^ k → n * 10 ^ (9 - k) < 1000000000
filled_up n k h l =
    let nine : k + (9 - k) ≡ 9 = omega arith in
    let whole : 10 ^ k * 10 ^ (9 - k) ≡ 10 ^ 9 = rw (← pow-add, nine) in
    rw (← whole) (mul-lt-mul_of_pos_right l (one-le-pow (9 - k) 10 (omega arith)))

-- so are the digits that a run has counted
pub run_filled : (s : List ℕ) (at : ℕ) (r : Run) → r ≡ digits_at s at → r.end - at ≤ 9 → r.number < 10 ^ (r.end - at)
run_filled s at r e h =
    let n : r.end - at ≡ length (run (drop at s)) = omega (arith, ap (λ (x : Run). x.end) e) in
    rw (n, ap (λ (x : Run). x.number) e) (run_below (drop at s) (omega arith))
