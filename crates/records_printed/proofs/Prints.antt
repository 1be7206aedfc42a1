-- What is printed for the first record of an input, and for what stands behind it.
use mathlib.Core.Bool.{true, false}
use mathlib.Core.List.{List, ◌++◌, append_assoc}
use mathlib.Core.Path.{◌≡◌}
use Prim.Native.Nat.{ℕ, ◌+◌}
use Rattle.session.specs.declared.Session.{Session}
use Rattle.records.specs.Record.{Record, Front, front, records}
use Rattle.records.proofs.Runs.{records-front}
use Rattle.records_printed.specs.Answer.{answered}
use Rattle.records_printed.specs.Line.{line_in}
use Rattle.records_printed.specs.Transcript.{answers, lines, last_line, printed_of}

module _ (n : ℕ) (u : Session) (s : List ℕ) where
  pub prints-end : front s ≡ Front.end → printed_of n u (records s) ≡ last_line false u
  prints-end e = rw (records-front s, e)

  pub prints-damaged : front s ≡ Front.damaged → printed_of n u (records s) ≡ last_line true u
  prints-damaged e = rw (records-front s, e)

  pub prints-sound : (r : Record) (rest : List ℕ) → front s ≡ Front.sound r rest → printed_of n u (records s) ≡ line_in n u r ++ printed_of (n + 1) (answered u r).session (records rest)
  prints-sound r rest e = rw (records-front s, e) (append_assoc (line_in n u r) (lines (n + 1) (records rest).sound (answers (answered u r).session (records rest).sound)) _)
