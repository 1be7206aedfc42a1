-- The session for programs in C and Rust: the caller keeps the record in the first two bytes of what it lends.
use Rattle.std.specs.Prelude.{ℕ, Option, Some, None, Result, Ok, Err}
use Rattle.wire.specs.declared.Refusal.{Refusal}
use mathlib.Core.{List.List, List.◌∷◌, Path.◌≡◌}
use lib.{Dec.ltb, ListN.length, ListN.get_or, ListN.drop}
use Rattle.wire.specs.{Bytes.if, declared.Refusal.TheVariants.ValueNotAllowed, declared.Refusal.TheVariants.NoRoom}
use Rattle.answer_c.specs.Codes.{refusal_code}
use Rattle.sedna.specs.declared.{Side.Side, Side.TheVariants.Client, Side.TheVariants.Server}
use Rattle.sedna_read.specs.declared.Reading.{Reading}
use Rattle.session.specs.{declared.Session.Session, declared.Stepped.Stepped}
use Rattle.session.specs.Step.{fresh_session, stepped, closed_of, turn_of}
use Rattle.sedna_c.specs.{Codes.sender_of, Codes.read_code, Codes.fields_after}

-- the record in the first two bytes: phase, version
abbrev pub record_in : List ℕ → Session
record_in d = record { phase = get_or d 0 0; version = get_or d 1 0 }

-- the bytes once a record is put there
abbrev pub record_put : Session → List ℕ → List ℕ
record_put s d = s.phase ∷ s.version ∷ drop 2 d

-- 0, or a refusal where two bytes are not lent
abbrev pub fresh_code : List ℕ → ℕ
fresh_code d = if (ltb (length d) 2) (refusal_code NoRoom) 0

abbrev pub fresh_after : List ℕ → List ℕ
fresh_after d = if (ltb (length d) 2) d (record_put fresh_session d)

-- 8 for a side that is none, ahead of what the step answers
abbrev pub step_from : Session → Option Side → List ℕ → Stepped
step_from s None bytes = record { session = s; answer = Err ValueNotAllowed }
step_from s (Some side) bytes = stepped s side bytes

unfoldable pub side_stepped : Session → ℕ → List ℕ → Stepped
side_stepped s side bytes = step_from s (sender_of side) bytes

-- first whether there is a record, then what the step answers, then whether the lent fields have room
abbrev pub step_code : List ℕ → ℕ → List ℕ → ℕ → ℕ
step_code d side bytes room = if (ltb (length d) 2) (refusal_code NoRoom) (read_code (side_stepped (record_in d) side bytes).answer room)

-- the lent fields then
abbrev pub step_fields : List ℕ → ℕ → List ℕ → List ℕ → List ℕ
step_fields d side bytes fields = if (ltb (length d) 2) fields (fields_after (side_stepped (record_in d) side bytes).answer fields)

-- the record after an accepted message, where the lent fields have room for it
abbrev pub kept : Result Reading Refusal → Session → ℕ → List ℕ → List ℕ
kept (Err r) s room d = d
kept (Ok m) s room d = if (ltb room 10) d (record_put s d)

-- the session's bytes then
abbrev pub session_after : List ℕ → ℕ → List ℕ → ℕ → List ℕ
session_after d side bytes room =
    if (ltb (length d) 2)
    d
    (kept (side_stepped (record_in d) side bytes).answer (side_stepped (record_in d) side bytes).session room d)

-- the contract of the step: its number, the session's bytes and the lent fields
pub record Steps (d : List ℕ) (side : ℕ) (bytes fields : List ℕ) (r : ℕ) (d' fields' : List ℕ) : Type 0 where
  pub answers : r ≡ step_code d side bytes (length fields)
  pub leaves_session : d' ≡ session_after d side bytes (length fields)
  pub leaves_fields : fields' ≡ step_fields d side bytes fields

-- 1 where a conversation is over, else 0
abbrev pub closed_code : List ℕ → ℕ
closed_code d = if (ltb (length d) 2) 0 (if (closed_of (record_in d)) 1 0)

-- the number of the side that has the turn; 0 where a conversation is over, and where there is no record
abbrev pub turn_number : Option Side → ℕ
turn_number (Some Client) = 1
turn_number (Some Server) = 2
turn_number None = 0

abbrev pub turn_code : List ℕ → ℕ
turn_code d = if (ltb (length d) 2) 0 (turn_number (turn_of (record_in d)))
