-- What the one function behind `kdr_read` and `kdr_step` goes by, and promises.
use Rattle.std.specs.Prelude.{ℕ, Option, Some, None, Result, Err}
use Rattle.wire.specs.declared.Refusal.{Refusal}
use mathlib.Core.{Bool.Bool, Bool.not, List.List, Path.◌≡◌}
use lib.{Dec.eqb, ListN.length}
use Rattle.wire.specs.{Bytes.if, Bytes.int_at, declared.Refusal.TheVariants.ValueNotAllowed}
use Rattle.sedna.specs.declared.Side.{Side}
use Rattle.sedna_read.specs.{declared.Reading.Reading, Places.located, Reading.reading, Reading.or_out_of_order}
use Rattle.session.specs.{declared.Session.Session, Machine.refused, Machine.next, After.after_answer}
use Rattle.sedna_c.specs.{Codes.sender_of, Codes.TellsReading, Sessions.record_in, Sessions.kept}

-- the phase after the message in front; reading alone asks for none, and any will do
abbrev pub phase_after : Bool → Session → List ℕ → ℕ
phase_after stepping s bytes = if stepping (next s.phase s.version (int_at bytes 0)) 0

-- what is answered to a message with that phase after it
abbrev pub answer_of : Option Side → ℕ → List ℕ → Result Reading Refusal
answer_of None phase bytes = Err ValueNotAllowed
answer_of (Some side) phase bytes = located (or_out_of_order (not (eqb phase refused)) (reading side bytes))

-- an answer is told, and what was accepted is kept in the record, with that phase after it
pub record Settles (answer : Result Reading Refusal) (phase : ℕ) (d fields : List ℕ) (r : ℕ) (d' fields' : List ℕ) : Type 0 where
  pub tells : TellsReading answer fields r fields'
  pub leaves_session : d' ≡ kept answer (after_answer (record_in d) phase answer) (length fields) d

-- what comes of bytes from a side's number, with that phase after them
abbrev pub Takes : ℕ → List ℕ → ℕ → List ℕ → List ℕ → ℕ → List ℕ → List ℕ → Type 0
Takes side bytes phase = Settles (answer_of (sender_of side) phase bytes) phase
