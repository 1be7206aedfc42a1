-- What the functions that write a message's head, and its options behind it, promise and ask.
use Rattle.std.specs.Prelude.{ℕ, ◌+◌, ◌≤◌, length, Result}
use Rattle.wire.specs.declared.Refusal.{Refusal}
use mathlib.Core.{Bool.Bool, List.List, List.◌++◌, Path.◌≡◌}
use Rattle.wire.specs.{Bytes.int, Call.output_after}
use Rattle.sedna.specs.{declared.Shape.Shape, Encode.pairs_bytes}
use Rattle.sedna_write.specs.{Pairs.sum, Pairs.pairs_of, Writing.judgement}

-- a message is judged, and its head written in front of the output where nothing is refused
pub record Begins (out : List ℕ) (instruction : ℕ) (shape : Shape) (ok : Bool) (n : ℕ) (r : Result ℕ Refusal) (after : List ℕ) : Type 0 where
  pub answers : r ≡ judgement instruction shape ok n (length out)
  pub leaves : after ≡ output_after r out 0 (int instruction ++ int n)

-- options that can be written behind the head
pub record PairsFit (out ids lengths values : List ℕ) : Type 0 where
  pub even : length ids ≡ length lengths
  pub whole : sum lengths ≡ length values
  pub short : length values ≤ 10240
  pub room : 8 + length (pairs_bytes (pairs_of ids lengths values)) ≤ length out
