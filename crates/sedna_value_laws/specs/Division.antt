-- Document 02, request 1: "the one rounded division of the digits by the power of ten, both exact, negated for a minus sign (so -0 is negative zero)".
use Rattle.std.specs.Prelude.{ℕ, ◌^◌, ◌≤◌, ◌<◌, Ok}
use mathlib.Core.{Bool.Bool, Bool.true, Bool.false, Path.◌≡◌}
use lib.{Ieee.Float, Ieee.binary64, Ieee.fin, Ieee.of_int, Ieee.div, Ieee.round, Ieee.is_nan, Ieee.Exact.HasValue, IntN.pos, ListN.length}
use Rattle.wire.specs.Every.{Every}
use Rattle.sedna_digits.specs.Numbers.{number}
use Rattle.sedna_value.specs.{declared.Value.TheVariants.Double, Values.value_of}
use Rattle.sedna_value_laws.specs.Types.{double}
use Rattle.sedna_value_laws.specs.DoubleTexts.{Mantissa, digits, places, Exponent, DoubleText, written, Formed, negated}
use Rattle.sedna_value_laws.specs.Signs.{Sign, is_minus}

-- one division of two whole numbers, each made a double
abbrev pub divided : ℕ → ℕ → Float
divided n power = div binary64 (of_int binary64 (pos n)) (of_int binary64 (pos power))

-- n is the number that the digits are, k of them behind the point
pub record Rounded (n k : ℕ) : Type 0 where
  -- "both exact": as doubles they are n and 10 ^ k themselves
  pub digits_exact : HasValue (of_int binary64 (pos n)) false n 1
  pub power_exact : HasValue (of_int binary64 (pos (10 ^ k))) false (10 ^ k) 1
  -- so that the division alone is rounded: its result is the fraction n / 10 ^ k, rounded once
  pub once : divided n (10 ^ k) ≡ round binary64 false n (10 ^ k)
  -- and no NaN, whose bits the language leaves open
  pub not_nan : (minus : Bool) → is_nan (negated minus (divided n (10 ^ k))) ≡ false

-- a decimal without an exponent
abbrev pub plainly : Sign → Mantissa → DoubleText
plainly sign d = DoubleText.decimal sign d Exponent.none

pub record Division : Type 0 where
  pub numbers : (n k : ℕ) → n < 10 ^ 15 → k ≤ 15 → Rounded n k
  -- the answer to a text of at most fifteen digits is such a division
  pub texts : (sign : Sign) (d : Mantissa) → Formed (plainly sign d) → length (digits d) ≤ 15
      → value_of 1 double (written (plainly sign d)) ≡ Ok (Double (negated (is_minus sign) (divided (number (digits d)) (10 ^ places d))))
  -- "so -0 is negative zero", and so are -0.0, -.000 and the others
  pub minus_zero : (d : Mantissa) → Formed (plainly Sign.minus d) → length (digits d) ≤ 15 → Every (λ (x : ℕ). x ≡ 0) (digits d)
      → value_of 1 double (written (plainly Sign.minus d)) ≡ Ok (Double (fin true 0 (pos 0)))
