-- Document 02, request 1: "For a 4.0 item of class 1 return one typed answer", by its type.
use Rattle.std.specs.Prelude.{ℕ, eqb, Result, Ok, Err}
use Rattle.wire.specs.declared.Refusal.{Refusal}
use mathlib.Core.{Bool.Bool, Bool.true, List.List}
use Rattle.wire.specs.{Bytes.if, Bytes.between, declared.Refusal.TheVariants.NotOfForm}
use Rattle.sedna_value.specs.{declared.Value.Value, declared.Value.TheVariants.At, Booleans.boolean_of, Doubles.double_of, Wholes.whole_of}
use Rattle.sedna_instant.specs.{declared.Instant.Instant, DateTimes.instant_of}

abbrev pub from_dated : Result Instant Refusal → Result Value Refusal
from_dated (Ok i) = Ok (At i)
from_dated (Err r) = Err r

-- a type of whole numbers
abbrev pub is_whole : ℕ → Bool
is_whole type = if (eqb type 24) true (between 50 61 type)

abbrev pub by_type : ℕ → List ℕ → Result Value Refusal
by_type type s =
    if (eqb type 10) (from_dated (instant_of s))
    (if (eqb type 22) (double_of s) (if (eqb type 25) (boolean_of s) (if (is_whole type) (whole_of type s) (Err NotOfForm))))

-- "15 for another class, a type not named here"
unfoldable pub value_of : ℕ → ℕ → List ℕ → Result Value Refusal
value_of class type s = if (eqb class 1) (by_type type s) (Err NotOfForm)
