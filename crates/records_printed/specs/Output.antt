-- What the functions that write into lent output answer and leave there.
use Rattle.std.specs.Prelude.{ℕ, ◌≤◌, length, Result, Ok, Err}
use Rattle.wire.specs.declared.Refusal.{Refusal}
use mathlib.Core.{List.List, Path.◌≡◌}
use Rattle.wire.specs.{Call.in_room, Call.put_at, Call.Gives}
use Rattle.session.specs.declared.Session.{Session}
use Rattle.records_printed.specs.declared.CountedLine.{CountedLine}

-- the contract of a call that puts this text there, from `at` on, or answers 10: "lent output shorter than the bytes to be put there"
abbrev pub Puts : List ℕ → ℕ → List ℕ → Result ℕ Refusal → List ℕ → Type 0
Puts out at text = Gives (in_room (length out) at (length text)) (put_at out at text)

-- a record's line, with the session after the record: where there is no room, nothing is stepped
abbrev pub record_line : Session → Result ℕ Refusal → Result CountedLine Refusal
record_line s (Ok n) = Ok (CountedLine.Record n s)
record_line s (Err r) = Err r

-- the last line
abbrev pub end_line : Result ℕ Refusal → Result CountedLine Refusal
end_line (Ok n) = Ok (CountedLine.Last n)
end_line (Err r) = Err r

-- the contract of a call that puts such a line there
pub record PutsLine (kind : Result ℕ Refusal → Result CountedLine Refusal) (out : List ℕ) (at : ℕ) (text : List ℕ)
    (r : Result CountedLine Refusal) (after : List ℕ) : Type 0 where
  pub answers : r ≡ kind (in_room (length out) at (length text))
  pub leaves : after ≡ put_at out at text
  -- LONGEST_LINE bytes are always enough
  pub short : length text ≤ 38
