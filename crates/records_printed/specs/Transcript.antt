-- Document 01, "The transcript program": what it prints for a whole input.
use mathlib.Core.{Bool.Bool, Bool.true, Bool.false, List.List, List.[], List.◌∷◌, List.◌++◌}
use Rattle.std.specs.Prelude.{ℕ, ◌+◌}
use Rattle.wire.specs.{Bytes.if, Calls.Done, Calls.answers_from, Calls.record_after_all}
use Rattle.session.specs.{declared.Session.Session, Step.fresh_session, Step.closed_of}
use Rattle.records.specs.Record.{Record, Records, records}
use Rattle.records_printed.specs.{Answer.answered, Line.line}

-- so that the records of a transcript are calls one after another, of which wire's `Calls` tells
abbrev pub record_call : Session → Record → Done Session ℕ
record_call s r = record { record_after = (answered s r).session; answer = (answered s r).number }

-- what records are answered, one after another, from a session on
abbrev pub answers : Session → List Record → List ℕ
answers = answers_from record_call

-- the session after them
abbrev pub after : Session → List Record → Session
after = record_after_all record_call

-- "a line per record", the first with number n
abbrev pub lines : ℕ → List Record → List ℕ → List ℕ
lines n [] xs = []
lines n (r ∷ rs) [] = []
lines n (r ∷ rs) (x ∷ xs) = line n r x ++ lines (n + 1) rs xs

-- `closed` and its newline
abbrev pub says_closed : List ℕ
says_closed = 99 ∷ 108 ∷ 111 ∷ 115 ∷ 101 ∷ 100 ∷ 10 ∷ []

-- `open` and its newline
abbrev pub says_open : List ℕ
says_open = 111 ∷ 112 ∷ 101 ∷ 110 ∷ 10 ∷ []

-- `damaged` and its newline
abbrev pub says_damaged : List ℕ
says_damaged = 100 ∷ 97 ∷ 109 ∷ 97 ∷ 103 ∷ 101 ∷ 100 ∷ 10 ∷ []

-- "Last line: `closed`, `open`, or `damaged` at a bad length or kind or a cut record"
abbrev pub last_line : Bool → Session → List ℕ
last_line true s = says_damaged
last_line false s = if (closed_of s) says_closed says_open

-- what is printed for these records, the first with number n, from a session on
abbrev pub printed_of : ℕ → Session → Records → List ℕ
printed_of n s rs = lines n rs.sound (answers s rs.sound) ++ last_line rs.damaged (after s rs.sound)

-- the whole output: "number from 1", from a fresh session
unfoldable pub printed : List ℕ → List ℕ
printed input = printed_of 1 fresh_session (records input)
