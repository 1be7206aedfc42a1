-- What a step makes of an answer, by the places of the message's fields.
use Rattle.std.specs.Prelude.{ℕ, eqb, Result, Ok, Err}
use Rattle.wire.specs.declared.Refusal.{Refusal}
use Rattle.wire.specs.Bytes.{if}
use Rattle.sedna.specs.Names.{SessionParameters}
use Rattle.sedna_read.specs.{declared.Places.Places, declared.Reading.Reading}
use Rattle.session.specs.declared.Session.{Session}

-- the version that a session's parameters name; no other body has one
abbrev pub major_in : Places → ℕ
major_in Places.Empty = 0
major_in (Places.Session major minor user database) = major
major_in (Places.Text t) = 0
major_in (Places.Statement format t) = 0
major_in (Places.Coded code t) = 0
major_in (Places.Options pairs count) = 0
major_in (Places.Item class kind url part) = 0

-- the record after an answer: an accepted message leads to the phase `to`
abbrev pub after_answer : Session → ℕ → Result Reading Refusal → Session
after_answer s to (Err r) = s
after_answer s to (Ok m) = record { phase = to; version = if (eqb m.instruction SessionParameters) (major_in m.places) s.version }
