-- Booleans as they are read.
use Rattle.std.specs.Prelude.{ℕ, Result, Ok, Err}
use Rattle.wire.specs.declared.Refusal.{Refusal}
use mathlib.Core.{Bool.Bool, Bool.true, Bool.false, List.List}
use lib.{Dec.eqb, ListN.length, ListN.get_or}
use Rattle.wire.specs.{Bytes.if, declared.Refusal.TheVariants.NotOfForm}
use Rattle.sedna_value.specs.{declared.Value.Value, declared.Value.TheVariants.Boolean}

abbrev pub true_at : List ℕ → Bool
true_at s = if (eqb (get_or s 0 0) 116) (if (eqb (get_or s 1 0) 114) (if (eqb (get_or s 2 0) 117) (eqb (get_or s 3 0) 101) false) false) false

abbrev pub false_at : List ℕ → Bool
false_at s =
    if (eqb (get_or s 0 0) 102)
    (if (eqb (get_or s 1 0) 97) (if (eqb (get_or s 2 0) 108) (if (eqb (get_or s 3 0) 115) (eqb (get_or s 4 0) 101) false) false) false) false

abbrev pub of_bool : Bool → Result Value Refusal
of_bool b = Ok (Boolean b)

abbrev pub boolean_digit : ℕ → Result Value Refusal
boolean_digit b = if (eqb b 49) (of_bool true) (if (eqb b 48) (of_bool false) (Err NotOfForm))

-- true, false, 1 and 0
unfoldable pub boolean_of : List ℕ → Result Value Refusal
boolean_of s =
    if (eqb (length s) 1)
    (boolean_digit (get_or s 0 0))
    (if (eqb (length s) 4) (if (true_at s) (of_bool true) (Err NotOfForm))
    (if (eqb (length s) 5) (if (false_at s) (of_bool false) (Err NotOfForm)) (Err NotOfForm)))
