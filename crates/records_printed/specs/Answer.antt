-- Document 01, "The transcript program": what a record is answered, "0 or the refusal; payload bytes after the message count as 7".
use Rattle.std.specs.Prelude.{ℕ, Result, Ok, Err}
use Rattle.wire.specs.declared.Refusal.{Refusal}
use lib.{Dec.ltb, ListN.length}
use Rattle.wire.specs.{Bytes.if, Refusals.number_of, declared.Refusal.TheVariants.BytesLeftOver}
use Rattle.sedna_read.specs.{declared.Reading.Reading, Reading.Answer, Reading.reading}
use Rattle.session.specs.{declared.Session.Session, declared.Stepped.Stepped, Step.stepped}
use Rattle.records_printed.specs.declared.Answered.{Answered}
use Rattle.records.specs.Record.{Record}

-- "0 or the refusal"
abbrev pub number_in : Result Reading Refusal → ℕ
number_in (Ok m) = 0
number_in (Err r) = number_of r

-- the session's step, by its number
abbrev pub by_number : Stepped → Answered
by_number s = record { number = number_in s.answer; session = s.session }

-- reading refuses: that number. "payload bytes after the message count as 7": "then 7; and 9 last, for a session step", so it goes ahead of 9, and
-- the session is not stepped. Else what the session's step says
abbrev pub after_reading : Session → Record → Answer → Answered
after_reading s r (Answer.refused x) = record { number = number_of x; session = s }
after_reading s r (Answer.accepted m n) =
    if (ltb n (length r.payload))
    (record { number = number_of BytesLeftOver; session = s })
    (by_number (stepped s r.side r.payload))

-- what a record is answered, and the session after it
unfoldable pub answered : Session → Record → Answered
answered s r = after_reading s r (reading r.side r.payload)
