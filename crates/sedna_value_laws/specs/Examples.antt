-- Texts and their answers, to be checked at sight: the places of document 02, request 1, that are easily got wrong.
use Rattle.std.specs.Prelude.{ℕ, Result, Ok, Err}
use Rattle.wire.specs.declared.Refusal.{Refusal}
use mathlib.Core.{Bool.Bool, Bool.true, Bool.false, List.List, List.[], List.◌∷◌, List.map, Path.◌≡◌}
use Prim.Native.String.{String}
use lib.{Ieee.Float, Ieee.fin, IntN.ℤ, IntN.pos, IntN.negsuc, IntN.neg_ℤ}
use Rattle.wire.specs.Refusals.{number_of}
use Rattle.sedna_value.specs.declared.Value.TheVariants.{Whole, At, Boolean, Double}
use Rattle.sedna_value.specs.{declared.Value.Value, Values.value_of}
use Rattle.sedna_value_laws.specs.Ascii.{ascii}

-- a refusal's number, or the value
pub data Expected : Type 0 where
  refused : ℕ → Expected
  whole : ℤ → Expected
  instant : ℤ → ℕ → Expected
  boolean : Bool → Expected
  double : Float → Expected

abbrev pub answer_of : Result Value Refusal → Expected
answer_of (Ok (Whole n)) = Expected.whole n
answer_of (Ok (At i)) = Expected.instant i.seconds i.nanos
answer_of (Ok (Boolean b)) = Expected.boolean b
answer_of (Ok (Double x)) = Expected.double x
answer_of (Err r) = Expected.refused (number_of r)

pub record Example : Type 0 where
  pub class : ℕ
  pub type : ℕ
  pub text : String
  pub answer : Expected

-- of class 1
abbrev item : ℕ → String → Expected → Example
item type text answer = record { class = 1; type = type; text = text; answer = answer }

unfoldable pub table : List Example
table =
    -- the incident: the first is earlier
    item 10 "2024-05-01T09:00:00+02:00" (Expected.instant (pos 1714546800) 0) ∷
    item 10 "2024-05-01T08:30:00Z" (Expected.instant (pos 1714552200) 0) ∷
    -- "signed seconds from 1970-01-01T00:00:00Z, with 0 to 999,999,999 nanoseconds on top"
    item 10 "1970-01-01T00:00:00Z" (Expected.instant (pos 0) 0) ∷
    item 10 "1969-12-31T23:59:59.5Z" (Expected.instant (neg_ℤ (pos 1)) 500000000) ∷
    -- "24:00:00 as the next midnight", of the year as written
    item 10 "9999-12-31T24:00:00Z" (Expected.instant (pos 253402300800) 0) ∷
    item 10 "2000-02-29T24:00:00.000-00:00" (Expected.instant (pos 951868800) 0) ∷
    item 10 "2000-01-01T24:00:00.001Z" (Expected.refused 15) ∷
    -- "a year counts as written, leap days too"
    item 10 "1900-02-29T00:00:00Z" (Expected.refused 15) ∷
    item 10 "-0004-02-29T00:00:00Z" (Expected.refused 16) ∷
    item 10 "-0001-02-29T00:00:00Z" (Expected.refused 15) ∷
    item 10 "10000-02-29T00:00:00Z" (Expected.refused 16) ∷
    item 10 "02000-01-01T00:00:00Z" (Expected.refused 15) ∷
    -- 15 ahead of 16, over the whole text
    item 10 "0000-01-01T00:00:00Z" (Expected.refused 16) ∷
    item 10 "0000-02-30T00:00:00Z" (Expected.refused 15) ∷
    item 10 "0000-01-01T00:00:00+15:00" (Expected.refused 15) ∷
    -- "a required zone from -14:00 to +14:00, up to nine fraction digits"
    item 10 "0001-01-01T00:00:00+14:00" (Expected.instant (neg_ℤ (pos 62135647200)) 0) ∷
    item 10 "2000-01-01T00:00:00" (Expected.refused 16) ∷
    item 10 "2000-01-01T00:00:00+14:01" (Expected.refused 15) ∷
    item 10 "2000-01-01T00:00:00.1234567890Z" (Expected.refused 16) ∷
    item 10 "2000-01-01T00:00:00.Z" (Expected.refused 15) ∷
    item 10 " 2000-01-01T00:00:00Z" (Expected.refused 15) ∷
    item 10 "2000-01-01T23:59:60Z" (Expected.refused 15) ∷
    -- "a whole number is always an optional sign and digits"
    item 24 "-9223372036854775808" (Expected.whole (negsuc 9223372036854775807)) ∷
    item 24 "9223372036854775808" (Expected.refused 16) ∷
    item 24 "00000000000000000000000000000000000000042" (Expected.whole (pos 42)) ∷
    item 57 "+5" (Expected.whole (pos 5)) ∷
    item 58 "-0" (Expected.whole (pos 0)) ∷
    item 50 "+1" (Expected.refused 16) ∷
    item 24 "1.0" (Expected.refused 15) ∷
    item 24 "1 " (Expected.refused 15) ∷
    item 24 "" (Expected.refused 15) ∷
    -- "a yes or no"
    item 25 "true" (Expected.boolean true) ∷
    item 25 "0" (Expected.boolean false) ∷
    item 25 "True" (Expected.refused 15) ∷
    -- "a point among or beside them"; 0.1 is 3602879701896397 / 2^55, and "-0 is negative zero"
    item 22 "1." (Expected.double (fin false 1 (pos 0))) ∷
    item 22 "+.5" (Expected.double (fin false 1 (negsuc 0))) ∷
    item 22 "0.1" (Expected.double (fin false 3602879701896397 (negsuc 54))) ∷
    item 22 "-0" (Expected.double (fin true 0 (pos 0))) ∷
    item 22 "." (Expected.refused 15) ∷
    item 22 "1234567890.123456" (Expected.refused 16) ∷
    item 22 "1E5" (Expected.refused 16) ∷
    item 22 "1E5.0" (Expected.refused 15) ∷
    item 22 "-INF" (Expected.refused 16) ∷
    item 22 "+INF" (Expected.refused 15) ∷
    -- "another class, a type not named here"
    record { class = 2; type = 24; text = "1"; answer = Expected.refused 15 } ∷
    item 23 "1" (Expected.refused 15) ∷ []

abbrev pub Examples : Type 0
Examples = map (λ (e : Example). answer_of (value_of e.class e.type (ascii e.text))) table ≡ map (λ (e : Example). e.answer) table
