-- The numbers by which exported calls answer.
use Rattle.std.specs.Prelude.{List, ℕ, ◌+◌, Result, Ok, Err}
use Rattle.wire.specs.{Call.output_after, Call.Gives, declared.Refusal.Refusal, Refusals.number_of}

-- a refusal among counts: its number on top of 2^63, above every count, since no slice is so long
abbrev pub refusal_code : Refusal → ℕ
refusal_code r = 9223372036854775808 + number_of r

abbrev pub counted_code : Result ℕ Refusal → ℕ
counted_code (Ok n) = n
counted_code (Err r) = refusal_code r

-- the contract of an exported call that writes: what it answers is told by its number
abbrev pub WritesByCode : Result ℕ Refusal → List ℕ → ℕ → List ℕ → ℕ → List ℕ → Type 0
WritesByCode answer out at bytes = Gives (counted_code answer) (output_after answer out at bytes)
