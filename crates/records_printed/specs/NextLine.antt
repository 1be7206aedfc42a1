-- Document 01, "The transcript program", record by record: what is printed for what was read of one record, and how the program goes on.
use Rattle.std.specs.Prelude.{ℕ, ◌+◌, Result}
use Rattle.wire.specs.declared.Refusal.{Refusal}
use mathlib.Core.{Bool.true, Bool.false, List.List, List.[], List.◌++◌, Path.◌≡◌}
use Rattle.session.specs.declared.Session.{Session}
use Rattle.records.specs.{Places.reads, Places.unread, Record.Front, Record.front, Record.records}
use Rattle.records_printed.specs.{declared.CountedLine.CountedLine, Answer.answered, Line.line_in, Output.record_line, Output.end_line}
use Rattle.records_printed.specs.Transcript.{last_line, printed_of}

-- line number n: that of the record in front, or the last line
abbrev pub next_line : ℕ → Session → Front → List ℕ
next_line n s Front.end = last_line false s
next_line n s Front.damaged = last_line true s
next_line n s (Front.sound r rest) = line_in n s r

-- behind a record's line it goes on, with the session after the record; behind the last line it ends
abbrev pub goes_on : Session → Front → Result ℕ Refusal → Result CountedLine Refusal
goes_on s Front.end = end_line
goes_on s Front.damaged = end_line
goes_on s (Front.sound r rest) = record_line (answered s r).session

-- what is printed behind that line for the input that is left
abbrev pub later : ℕ → Session → List ℕ → Front → List ℕ
later n s rest Front.end = []
later n s rest Front.damaged = []
later n s rest (Front.sound r _) = printed_of (n + 1) (answered s r).session (records rest)

-- so a program may read a record at a time
pub record LineByLine : Type 0 where
  -- what is printed for an input is the next line, by what is read for it, and behind a record's line what is printed for what is left
  pub by_lines : (n : ℕ) (u : Session) (s : List ℕ)
      → printed_of n u (records s) ≡ next_line n u (front (reads s)) ++ later n u (unread s) (front (reads s))
