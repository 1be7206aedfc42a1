-- A decimal by the two runs of digits that it is, and its digits as one number.
use mathlib.Core.Bool.{Bool, true, false}
use mathlib.Core.List.{List}
use mathlib.Core.Path.{◌≡◌}
use Prim.Native.Nat.{ℕ, ◌+◌, ◌-◌, ◌≤◌, ◌*◌, ◌^◌, ◌<◌, min}
use native.Mathlib.Nat.{add-sub_cancel_left, mul-le-mul_right, le_trans, lt_of_lt_of_le, pow-le-pow_right}
use native.Mathlib.Omega.{arith}
use lib.Dec.{eqb, lit<, lit≤}
use lib.ListN.{drop, get_or}
use lib.Pow.{pow-add}
use Rattle.wire.specs.Bytes.{if}
use Rattle.sedna_digits.specs.declared.Run.{Run}
use Rattle.sedna_digits.specs.Digits.{digits_at}
use Rattle.sedna_digits.proofs.Runs.{run_below}
use Rattle.sedna_digits.proofs.Powers.{power_is}
use Rattle.sedna_value.specs.declared.doubles.Decimal.{Decimal}
use Rattle.sedna_value.specs.Doubles.{decimal_at}
use Rattle.sedna_value.specs.inner.Decimals.{DecimalFits, FewDigits}

-- ---- digits before a point and behind it, by the two runs that they are, and how great their numbers are

abbrev pub plain : ℕ → Run → Decimal
plain at w = record { before = w.end - at; behind = 0; whole = w.number; fraction = 0; end = w.end }

abbrev pub pointed : ℕ → Run → Run → Decimal
pointed at w f = record { before = w.end - at; behind = f.end - (w.end + 1); whole = w.number; fraction = f.number; end = f.end }

-- the numbers have no more digits than were counted
pub decimal_fits : (s : List ℕ) (at : ℕ) → DecimalFits (decimal_at s at)
unfolding decimal_at
decimal_fits s at = by (eqb (get_or s point 0) 46)
  where
    point : ℕ
    point = (digits_at s at).end

    by : (t : Bool) → DecimalFits (if t (pointed at (digits_at s at) (digits_at s (point + 1))) (plain at (digits_at s at)))
    by true = λ few. record {
      few = few;
      whole_fits = rw (add-sub_cancel_left at) (run_below (drop at s) (omega arith));
      fraction_fits = rw (add-sub_cancel_left (point + 1)) (run_below (drop (point + 1) s) (omega arith));
    }
    by false = λ few. record { few = few; whole_fits = rw (add-sub_cancel_left at) (run_below (drop at s) (omega arith)); fraction_fits = lit< tt }

-- ---- the digits of a decimal as one number: below 10 ^ 15, so that it is a double exactly, as the power of ten is

below : (w p f q : ℕ) → w < p → f < q → w * q + f < p * q
below w p f q h k = omega (arith, mul-le-mul_right q h)

module _ {d : Decimal} (fit : FewDigits d) where
  all_digits : d.whole * 10 ^ d.behind + d.fraction < 10 ^ 15
  all_digits =
      lt_of_lt_of_le (below d.whole (10 ^ d.before) d.fraction (10 ^ d.behind) fit.whole_fits fit.fraction_fits)
      (rw (← pow-add 10 d.before d.behind) (pow-le-pow_right (lit< tt) fit.few))

  -- with the power as it was looked up: a double holds whole numbers up to 2 ^ 53
  module _ {scale : ℕ} (found : scale ≡ 10 ^ min d.behind 15) where
    pub is : scale ≡ 10 ^ d.behind
    is = power_is d.behind scale (omega arith) found

    pub all_exact : d.whole * scale + d.fraction ≤ 2 ^ 53
    all_exact = rw is (omega (arith, all_digits))

    pub scale_exact : scale ≤ 2 ^ 53
    scale_exact = rw is (le_trans (pow-le-pow_right (lit< tt) {j = 15} (omega arith)) (lit≤ tt))
