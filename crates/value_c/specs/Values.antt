-- Typed values for programs in C and Rust: what a value is, two whole numbers and a double.
use Rattle.std.specs.Prelude.{ℕ, Result, Ok, Err}
use mathlib.Core.{Bool.Bool, Bool.false, List.List, List.◌∷◌, Path.◌≡◌}
use lib.{Dec.ltb, Ieee.Float, Ieee.fin, IntN.ℤ, IntN.pos, ListN.length, ListN.drop}
use Rattle.wire.specs.{Bytes.if, declared.Refusal.Refusal}
use Rattle.answer_c.specs.Codes.{refusal_code}
use Rattle.sedna_value.specs.{declared.Value.Value, Values.value_of}
use Rattle.value_c.specs.declared.ValueNumbers.{ValueNumbers}

abbrev pub flag_of : Bool → ℤ
flag_of b = if b (pos 1) (pos 0)

-- 0.0
abbrev pub zero : Float
zero = fin false 0 (pos 0)

abbrev pub in_numbers : ℕ → ℤ → ℤ → Float → ValueNumbers
in_numbers what first second double = record { what = what; first = first; second = second; double = double }

-- what it is, 1 a whole number, 2 an instant, 3 a yes or no, 4 a double; and its numbers: the whole number; seconds and nanoseconds; 1 for yes.
-- One that a value does not use is 0.
abbrev pub numbers_of : Value → ValueNumbers
numbers_of (Value.Whole i) = in_numbers 1 i (pos 0) zero
numbers_of (Value.At t) = in_numbers 2 t.seconds (pos t.nanos) zero
numbers_of (Value.Boolean b) = in_numbers 3 (flag_of b) (pos 0) zero
numbers_of (Value.Double x) = in_numbers 4 (pos 0) (pos 0) x

-- the answer to a call, and the lent memory then
pub record Outcome : Type 0 where
  pub code : ℕ
  pub numbers : List ℤ
  pub doubles : List Float

-- a contract: the call answers and leaves what the outcome says
pub record ComesTo (o : Outcome) (r : ℕ) (numbers : List ℤ) (doubles : List Float) : Type 0 where
  pub answers : r ≡ o.code
  pub leaves_numbers : numbers ≡ o.numbers
  pub leaves_doubles : doubles ≡ o.doubles

abbrev pub unchanged : Refusal → List ℤ → List Float → Outcome
unchanged r numbers doubles = record { code = refusal_code r; numbers = numbers; doubles = doubles }

-- in front of what is lent
abbrev pub value_told : ValueNumbers → List ℤ → List Float → Outcome
value_told n numbers doubles = record { code = n.what; numbers = n.first ∷ n.second ∷ drop 2 numbers; doubles = n.double ∷ drop 1 doubles }

-- "10 last": where two numbers and a double are not lent
unfoldable pub lent_outcome : ValueNumbers → List ℤ → List Float → Outcome
lent_outcome n numbers doubles =
    if (ltb (length numbers) 2) (unchanged Refusal.NoRoom numbers doubles)
    (if (ltb (length doubles) 1) (unchanged Refusal.NoRoom numbers doubles) (value_told n numbers doubles))

abbrev pub valued_outcome : Result Value Refusal → List ℤ → List Float → Outcome
valued_outcome (Ok v) numbers doubles = lent_outcome (numbers_of v) numbers doubles
valued_outcome (Err r) numbers doubles = unchanged r numbers doubles

unfoldable pub outcome : ℕ → ℕ → List ℕ → List ℤ → List Float → Outcome
outcome class type text numbers doubles = valued_outcome (value_of class type text) numbers doubles
