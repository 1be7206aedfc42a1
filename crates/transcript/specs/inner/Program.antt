-- What the transcript program's functions answer. What was read and what was written no contract can say.
use Rattle.std.specs.Prelude.{ℕ, ◌≤◌, length, take, Option, Some, None}
use mathlib.Core.{List.List, Path.◌≡◌}
use Rattle.session.specs.declared.Session.{Session}
use Rattle.records_printed.specs.Answer.{answered}
use Rattle.records.specs.{Record.head_of, Record.Front, Places.reach}
use Rattle.transcript.specs.declared.Progress.{Progress}

-- no more bytes came than there is room for
abbrev pub Within : ℕ → Option ℕ → Type 0
Within room (Some n) = n ≤ room
Within room None = Unit {0}

-- nor more than a record has: those behind it are left for the next
abbrev pub OfRecord : List ℕ → Option ℕ → Type 0
OfRecord buffer (Some n) = (n ≤ length buffer) × (n ≤ reach (head_of (take 6 buffer)))
OfRecord buffer None = Unit {0}

-- behind a sound record it goes on, with the session after that record, and behind the last line it ends; but for a line that could not be written
abbrev pub GoesOn : Session → Progress → Front → Type 0
GoesOn s (Progress.On v) Front.end = ⊥
GoesOn s (Progress.On v) Front.damaged = ⊥
GoesOn s (Progress.On v) (Front.sound r rest) = v ≡ (answered s r).session
GoesOn s Progress.Ended Front.end = Unit {0}
GoesOn s Progress.Ended Front.damaged = Unit {0}
GoesOn s Progress.Ended (Front.sound r rest) = ⊥
GoesOn s Progress.Unwritten f = Unit {0}
