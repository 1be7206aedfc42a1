-- Doubles as they are read.
use Rattle.std.specs.Prelude.{ℕ, ◌+◌, ◌-◌, ◌*◌, ◌^◌, Result, Ok, Err}
use Rattle.wire.specs.declared.Refusal.{Refusal}
use mathlib.Core.{Bool.Bool, Bool.true, Bool.false, List.List}
use lib.{Dec.eqb, Dec.ltb, Ieee.Float, Ieee.binary64, Ieee.of_int, Ieee.div, Ieee.neg, IntN.pos, ListN.length, ListN.get_or}
use Rattle.wire.specs.{Bytes.if, declared.Refusal.TheVariants.NotOfForm, declared.Refusal.TheVariants.OutOfRange}
use Rattle.sedna_value.specs.{declared.Value.Value, declared.Value.TheVariants.Double, declared.doubles.Decimal.Decimal}
use Rattle.sedna_digits.specs.{declared.Run.Run, Digits.digits_at, Digits.behind_sign}

-- "the one rounded division of the digits by the power of ten": both as doubles
abbrev pub divided : ℕ → ℕ → Float
divided digits power = div binary64 (of_int binary64 (pos digits)) (of_int binary64 (pos power))

-- "negated for a minus sign (so -0 is negative zero)"
abbrev pub negated : Bool → Float → Float
negated true x = neg x
negated false x = x

abbrev decimal_by : ℕ → ℕ → Run → Run → Decimal
decimal_by at point w f = record { before = point - at; behind = f.end - (point + 1); whole = w.number; fraction = f.number; end = f.end }

abbrev decimal_from : List ℕ → ℕ → Run → Decimal
decimal_from s at w =
    if (eqb (get_or s w.end 0) 46) (decimal_by at w.end w (digits_at s (w.end + 1)))
    (record { before = w.end - at; behind = 0; whole = w.number; fraction = 0; end = w.end })

-- digits with a point among or beside them, or with none
unfoldable pub decimal_at : List ℕ → ℕ → Decimal
decimal_at s at = decimal_from s at (digits_at s at)

abbrev pub quotient : Decimal → Float
quotient d = divided (d.whole * 10 ^ d.behind + d.fraction) (10 ^ d.behind)

abbrev pub nan_at : List ℕ → Bool
nan_at s = if (eqb (get_or s 0 0) 78) (if (eqb (get_or s 1 0) 97) (eqb (get_or s 2 0) 78) false) false

abbrev pub inf_at : List ℕ → ℕ → Bool
inf_at s at = if (eqb (get_or s at 0) 73) (if (eqb (get_or s (at + 1) 0) 78) (eqb (get_or s (at + 2) 0) 70) false) false

-- INF, -INF and NaN
unfoldable pub special_of : List ℕ → Result Value Refusal
special_of s =
    if (if (eqb (length s) 3) (if (inf_at s 0) true (nan_at s)) (if (eqb (length s) 4) (if (eqb (get_or s 0 0) 45) (inf_at s 1) false) false))
    (Err OutOfRange) (Err NotOfForm)

abbrev exponent_by : List ℕ → ℕ → Run → Bool
exponent_by s start r = if (eqb r.end start) false (eqb r.end (length s))

abbrev is_e : ℕ → Bool
is_e b = if (eqb b 69) true (eqb b 101)

-- E or e, an optional sign and digits, with which the text ends
unfoldable pub exponent_at : List ℕ → ℕ → Bool
exponent_at s at = if (is_e (get_or s at 0)) (exponent_by s (behind_sign s (at + 1)) (digits_at s (behind_sign s (at + 1)))) false

abbrev pub decided_of : Bool → Decimal → Result Value Refusal
decided_of minus d = if (ltb 15 (d.before + d.behind)) (Err OutOfRange) (Ok (Double (negated minus (quotient d))))

abbrev double_by : List ℕ → Decimal → Result Value Refusal
double_by s d =
    if (eqb (d.before + d.behind) 0) (special_of s)
    (if (ltb d.end (length s)) (if (exponent_at s d.end) (Err OutOfRange) (Err NotOfForm)) (decided_of (eqb (get_or s 0 0) 45) d))

unfoldable pub double_of : List ℕ → Result Value Refusal
double_of s = double_by s (decimal_at s (behind_sign s 0))
