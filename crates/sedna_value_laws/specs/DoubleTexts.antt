-- Document 02, request 1: "A double is an optional sign, one to fifteen digits, optionally with a point among or beside them", and what XML Schema has
-- besides, an exponent, INF, -INF and NaN. No reader is known here.
use mathlib.Core.{Bool.Bool, Bool.true, Bool.false, List.List, List.[], List.◌++◌, Path.◌≡◌}
use Rattle.std.specs.Prelude.{ℕ, ◌^◌, ◌≤◌, ◌<◌}
use lib.{Ieee.Float, Ieee.binary64, Ieee.round, Ieee.neg, ListN.length}
use Rattle.sedna_digits.specs.Numbers.{number, AreDigits, text}
use Rattle.sedna_value.specs.{declared.Value.Value, declared.Value.TheVariants.Double}
use Rattle.sedna_value_laws.specs.{Ascii.ascii, Signs.Sign, Signs.sign_text, Signs.is_minus}

-- digits without a point, or those before it and those behind it
pub data Mantissa : Type 0 where
  plain : List ℕ → Mantissa
  pointed : List ℕ → List ℕ → Mantissa

abbrev pub mantissa_text : Mantissa → List ℕ
mantissa_text (Mantissa.plain ds) = text ds
mantissa_text (Mantissa.pointed before behind) = text before ++ (ascii "." ++ text behind)

-- all of its digits, and how many of them stand behind the point
abbrev pub digits : Mantissa → List ℕ
digits (Mantissa.plain ds) = ds
digits (Mantissa.pointed before behind) = before ++ behind

abbrev pub places : Mantissa → ℕ
places (Mantissa.plain ds) = 0
places (Mantissa.pointed before behind) = length behind

-- none, or E or e with an optional sign and digits
pub data Exponent : Type 0 where
  none : Exponent
  upper lower : Sign → List ℕ → Exponent

abbrev pub exponent_text : Exponent → List ℕ
exponent_text Exponent.none = []
exponent_text (Exponent.upper sign ds) = ascii "E" ++ sign_text sign ++ text ds
exponent_text (Exponent.lower sign ds) = ascii "e" ++ sign_text sign ++ text ds

abbrev FormedExponent : Exponent → Type 0
FormedExponent Exponent.none = Unit {0}
FormedExponent (Exponent.upper sign ds) = (0 < length ds) × AreDigits ds
FormedExponent (Exponent.lower sign ds) = (0 < length ds) × AreDigits ds

pub data DoubleText : Type 0 where
  decimal : Sign → Mantissa → Exponent → DoubleText
  inf -inf nan : DoubleText

abbrev pub written : DoubleText → List ℕ
written (DoubleText.decimal sign d e) = sign_text sign ++ mantissa_text d ++ exponent_text e
written DoubleText.inf = ascii "INF"
written DoubleText.-inf = ascii "-INF"
written DoubleText.nan = ascii "NaN"

abbrev pub Formed : DoubleText → Type 0
Formed (DoubleText.decimal sign d e) = (0 < length (digits d)) × AreDigits (digits d) × FormedExponent e
Formed DoubleText.inf = Unit {0}
Formed DoubleText.-inf = Unit {0}
Formed DoubleText.nan = Unit {0}

-- "negated for a minus sign"
abbrev pub negated : Bool → Float → Float
negated true x = neg x
negated false x = x

-- "the one rounded division of the digits by the power of ten": the fraction itself, rounded once, as the language rounds
abbrev pub meant : Sign → Mantissa → Float
meant sign d = negated (is_minus sign) (round binary64 false (number (digits d)) (10 ^ places d))

pub data Means : DoubleText → Value → Type 0 where
  decimal : {sign : Sign} {d : Mantissa} {v : Value} → length (digits d) ≤ 15 → v ≡ Double (meant sign d) → Means (DoubleText.decimal sign d Exponent.none) v

-- 16: "more digits than named, or a double with an exponent, INF or NaN"
pub data Excluded : DoubleText → Type 0 where
  more_digits : {sign : Sign} {d : Mantissa} → 15 < length (digits d) → Excluded (DoubleText.decimal sign d Exponent.none)
  powered : {sign : Sign} {d : Mantissa} {e : Exponent} → ¬ (e ≡ Exponent.none) → Excluded (DoubleText.decimal sign d e)
  inf : Excluded DoubleText.inf
  -inf : Excluded DoubleText.-inf
  nan : Excluded DoubleText.nan
