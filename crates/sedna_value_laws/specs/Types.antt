-- Document 02, request 1: "a whole number (types 24 and 50 to 61, with each type's own range, limited to signed 64 bits), an instant (10), a yes or no (25),
-- or a double (22)". The types' numbers are Sedna's, their names and ranges those of XML Schema Part 2.
use mathlib.Core.{List.List, List.[], List.◌∷◌, Option.Option, Option.none, Option.some}
use Rattle.std.specs.Prelude.{ℕ, ◌-◌, ◌^◌, ℤ, pos, neg_ℤ}

abbrev pub date_time : ℕ
date_time = 10

abbrev pub double : ℕ
double = 22

abbrev pub boolean : ℕ
boolean = 25

-- a type of whole numbers: its number, the least and the greatest that it has, if there is one
pub record WholeType : Type 0 where
  pub type : ℕ
  pub least : Option ℤ
  pub greatest : Option ℤ

abbrev ranged : ℕ → Option ℤ → Option ℤ → WholeType
ranged type least greatest = record { type = type; least = least; greatest = greatest }

abbrev plus : ℕ → Option ℤ
plus n = some (pos n)

abbrev minus : ℕ → Option ℤ
minus n = some (neg_ℤ (pos n))

unfoldable pub whole_types : List WholeType
whole_types =
    ranged 24 none none ∷  -- integer
    ranged 50 none (plus 0) ∷  -- nonPositiveInteger
    ranged 51 none (minus 1) ∷  -- negativeInteger
    ranged 52 (minus (2 ^ 63)) (plus (2 ^ 63 - 1)) ∷  -- long
    ranged 53 (minus (2 ^ 31)) (plus (2 ^ 31 - 1)) ∷  -- int
    ranged 54 (minus (2 ^ 15)) (plus (2 ^ 15 - 1)) ∷  -- short
    ranged 55 (minus (2 ^ 7)) (plus (2 ^ 7 - 1)) ∷  -- byte
    ranged 56 (plus 0) none ∷  -- nonNegativeInteger
    ranged 57 (plus 0) (plus (2 ^ 64 - 1)) ∷  -- unsignedLong
    ranged 58 (plus 0) (plus (2 ^ 32 - 1)) ∷  -- unsignedInt
    ranged 59 (plus 0) (plus (2 ^ 16 - 1)) ∷  -- unsignedShort
    ranged 60 (plus 0) (plus (2 ^ 8 - 1)) ∷  -- unsignedByte
    ranged 61 (plus 1) none ∷ []  -- positiveInteger
