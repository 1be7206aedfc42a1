-- A record answered by one step, and its line measured and written field by field where there is room.
use mathlib.Core.{List.List, Path.◌≡◌}
use Rattle.std.specs.Prelude.{ℕ, ◌+◌, ◌≤◌}
use lib.{Dec.ltb, Dec.eqb, ListN.length}
use Rattle.wire.specs.{Bytes.if, Bytes.int_at, Refusals.number_of, declared.Refusal.Refusal}
use Rattle.records_printed.specs.{declared.Widths.Widths, Line.decimal, Line.instruction}

-- the number of a step's refusal: bytes after the message are 7, ahead of 9
abbrev pub refused_with : List ℕ → Refusal → ℕ
refused_with payload x = if (eqb (number_of x) 9) (if (ltb (8 + int_at payload 4) (length payload)) 7 9) (number_of x)

-- how many characters the fields have that differ in length
abbrev pub widths_of : ℕ → List ℕ → ℕ → Widths
widths_of n payload x = record { number = length (decimal n); instruction = length (instruction payload); answer = length (decimal x) }

-- a line has five more
abbrev pub width_of : Widths → ℕ
width_of w = w.number + w.instruction + w.answer + 5

-- the contract of measuring a line
pub record Measures (n : ℕ) (payload : List ℕ) (x : ℕ) (w : Widths) : Type 0 where
  pub answers : w ≡ widths_of n payload x
  pub short : width_of w ≤ 38

-- digits, or an instruction, are counted
pub record Counts (text : List ℕ) (most r : ℕ) : Type 0 where
  pub answers : r ≡ length text
  pub short : r ≤ most

-- text that was counted has room
pub record Fits (out : List ℕ) (at count : ℕ) (text : List ℕ) : Type 0 where
  pub counted : count ≡ length text
  pub there : at + count ≤ length out
