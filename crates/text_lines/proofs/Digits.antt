-- A decimal number, read digit by digit.
use Rattle.std.specs.Prelude.{Option, Some, None}
use mathlib.Core.Path.{◌≡◌, refl, ◌∙◌}
use mathlib.Core.List.{List, [], ◌∷◌}
use mathlib.Core.Bool.{Bool, true, false}
use Prim.Native.Nat.{ℕ, ◌+◌, ◌*◌, ◌≤◌, ◌<◌}
use native.Mathlib.Omega.{arith}
use lib.Dec.{eqb}
use lib.ListN.{length, drop, get_or, drop_of_length-le}
use borrow.Author.Tests.{lt-ltb, le-ltb}
use Rattle.wire.specs.Bytes.{if}
use Rattle.text_lines.specs.Numbers.{digit_of, all_decimal, with_digits, in_int, decimal_of}
use Rattle.text_lines.proofs.Parts.{drop_here}

-- what is answered where n was read, and s is left
abbrev pub judged : ℕ → List ℕ → Option ℕ
judged n s = if (all_decimal s) (in_int (with_digits n s)) None

pub no-digits : (s : List ℕ) → eqb (length s) 0 ≡ true → decimal_of s ≡ None
unfolding decimal_of
no-digits s e = simp e

pub judged_start : (s : List ℕ) → eqb (length s) 0 ≡ false → decimal_of s ≡ judged 0 s
unfolding decimal_of
judged_start s e = simp e

grows : (n : ℕ) (s : List ℕ) → n ≤ with_digits n s
unfolding with_digits
grows n [] = omega arith
grows n (b ∷ s) =
    let h = grows (n * 10 + digit_of b) s in
    omega arith

-- no digit makes a number smaller
judged_above : (n : ℕ) (s : List ℕ) → 4294967295 < n → judged n s ≡ None
judged_above n s h = by (all_decimal s)
  where
    by : (t : Bool) → if t (in_int (with_digits n s)) None ≡ None
    by true =
        let g = grows n s in
        let k : 4294967295 < with_digits n s = omega arith in
        simp (lt-ltb _ _ k)
    by false = refl

module _ (n : ℕ) (s : List ℕ) (i : ℕ) where
  pub judged_on : i < length s → digit_of (get_or s i 0) ≤ 9 → judged n (drop i s) ≡ judged (n * 10 + digit_of (get_or s i 0)) (drop (i + 1) s)
  unfolding all_decimal with_digits
  judged_on h k = rw (drop_here s i h) (simp (le-ltb _ _ k))

  pub judged_not : i < length s → 9 < digit_of (get_or s i 0) → judged n (drop i s) ≡ None
  unfolding all_decimal
  judged_not h k = rw (drop_here s i h) (simp (lt-ltb _ _ k))

  -- the digit at i makes it too large
  pub judged_over : i < length s → digit_of (get_or s i 0) ≤ 9 → 4294967295 < n * 10 + digit_of (get_or s i 0) → judged n (drop i s) ≡ None
  judged_over h k g = judged_on h k ∙ judged_above (n * 10 + digit_of (get_or s i 0)) (drop (i + 1) s) g

  pub judged_end : length s ≤ i → n ≤ 4294967295 → judged n (drop i s) ≡ Some n
  unfolding all_decimal with_digits
  judged_end h k = rw (drop_of_length-le s h) (simp (le-ltb _ _ k))
