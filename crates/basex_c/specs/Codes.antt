-- What a call answers, as a number: a count, or a refusal, which leaves all that was lent as it was.
use Rattle.std.specs.Prelude.{Result, Ok, Err, ℕ}
use mathlib.Core.{List.List, List.◌++◌, Path.◌≡◌}
use lib.{Dec.ltb, ListN.length, ListN.drop}
use Rattle.wire.specs.{Bytes.if, Call.Gives, Call.output_after, declared.Refusal.Refusal}
use Rattle.answer_c.specs.Codes.{counted_code}

-- a count and the numbers that are told with it, or a refusal
pub data Outcome : Type 0 where
  counted : ℕ → List ℕ → Outcome
  refused : Refusal → Outcome

-- "with 10 last": where fewer numbers are lent than are told
abbrev pub lent : ℕ → Outcome → Outcome
lent room (Outcome.refused r) = Outcome.refused r
lent room (Outcome.counted n told) = if (ltb room (length told)) (Outcome.refused Refusal.NoRoom) (Outcome.counted n told)

-- the same without what is told
abbrev pub counted_of : Outcome → Result ℕ Refusal
counted_of (Outcome.refused r) = Err r
counted_of (Outcome.counted n told) = Ok n

abbrev pub code : Outcome → ℕ
code o = counted_code (counted_of o)

-- the lent numbers then: what is told in front
abbrev pub told_in : List ℕ → Outcome → List ℕ
told_in d (Outcome.refused r) = d
told_in d (Outcome.counted n told) = told ++ drop (length told) d

-- the contract of a call that only tells: its number, and the lent numbers
abbrev pub Tells : Outcome → List ℕ → ℕ → List ℕ → Type 0
Tells o numbers = Gives (code o) (told_in numbers o)

-- .. of one that also stores: its number, the lent output, with the bytes from `to` on, and the lent numbers
pub record Reads (o : Outcome) (out : List ℕ) (to : ℕ) (bytes numbers : List ℕ) (r : ℕ) (out-after numbers_after : List ℕ) : Type 0 where
  pub answers : r ≡ code o
  pub stores : out-after ≡ output_after (counted_of o) out to bytes
  pub tells : numbers_after ≡ told_in numbers o
