-- What an answer of an exported call means, by bindings/c/keddorimp.h: "An answer below 2^63 is a count (of bytes read or written, or of parts), one above
-- it is a refusal, its number on top of 2^63."
use Rattle.std.specs.Prelude.{List, ℕ, ◌-◌, ltb}
use Rattle.wire.specs.{Bytes.IsBytes, Bytes.if, Calls.Done}

pub data Answered : Type 0 where
  count : ℕ → Answered
  -- by its number
  refusal : ℕ → Answered

-- KDR_REFUSED, 2^63
abbrev pub REFUSED : ℕ
REFUSED = 9223372036854775808

-- kdr_refused, kdr_refusal
abbrev pub answered : ℕ → Answered
answered n = if (ltb n REFUSED) (Answered.count n) (Answered.refusal (n - REFUSED))

-- a call of `kdr_step` or `kdr_join`: a side's number, bytes, and the numbers that are lent to be told
pub record Call : Type 0 where
  pub side : ℕ
  pub bytes : List ℕ
  pub are_bytes : IsBytes bytes
  pub numbers : List ℕ

-- what it answers, and what those numbers are then
pub record Told : Type 0 where
  pub answer : Answered
  pub numbers : List ℕ

-- a refusal's number alone, and everything as it was
abbrev pub unchanged : {Record : Type 0} → ℕ → Record → Call → Done Record Told
unchanged k s c = record { record_after = s; answer = record { answer = Answered.refusal k; numbers = c.numbers } }
