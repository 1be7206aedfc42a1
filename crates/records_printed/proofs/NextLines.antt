-- The next line, by what stands in front; and an input read line by line.
use Rattle.std.specs.Prelude.{Result}
use Rattle.wire.specs.declared.Refusal.{Refusal}
use mathlib.Core.Bool.{Bool, true, false}
use mathlib.Core.List.{List, ◌++◌, append-nil}
use mathlib.Core.Path.{◌≡◌, sym, ap, ◌∙◌}
use Prim.Native.Nat.{ℕ, ◌≤◌}
use native.Mathlib.Omega.{arith}
use lib.ListN.{length, take, drop}
use Rattle.wire.specs.Bytes.{if}
use Rattle.wire.specs.declared.Place.{Place}
use Rattle.sedna.specs.declared.Side.{Side}
use Rattle.session.specs.declared.Session.{Session}
use Rattle.session.specs.Step.{closed_of}
use Rattle.records.specs.declared.Next.TheVariants as next
use Rattle.records.specs.Places.{located, unread, reads}
use Rattle.records.specs.Record.{record_of, Front, front, records}
use Rattle.records.proofs.Fronts.{next-end, next-damaged, next-found}
use Rattle.records.proofs.Reach.{onto, front-onto}
use Rattle.records_printed.specs.declared.CountedLine.{CountedLine}
use Rattle.records_printed.specs.Answer.{answered}
use Rattle.records_printed.specs.Line.{line_in}
use Rattle.records_printed.specs.NextLine.{next_line, goes_on, later, LineByLine}
use Rattle.records_printed.specs.Output.{Puts, PutsLine, record_line, end_line}
use Rattle.records_printed.specs.Transcript.{says_closed, says_open, last_line, printed_of}
use Rattle.records_printed.proofs.Prints.{prints-end, prints-damaged, prints-sound}

-- no last line is longer than a line can be
last-short : (b : Bool) (u : Session) → length (last_line b u) ≤ 38
last-short true u = omega arith
last-short false u = by (closed_of u)
  where
    by : (c : Bool) → length (if c says_closed says_open) ≤ 38
    by true = omega arith
    by false = omega arith

last-put : (d : List ℕ) (b : Bool) (u : Session) {p : Result ℕ Refusal} {e : List ℕ} (x : Result CountedLine Refusal) → Puts d 0 (last_line b u) p e → x ≡ end_line p → PutsLine end_line d 0 (last_line b u) x e
last-put d b u x w t = record { answers = t ∙ ap end_line w.answers; leaves = w.leaves; short = last-short b u }

module _ (d : List ℕ) (n : ℕ) (u : Session) (s : List ℕ) (x : Result CountedLine Refusal) (e : List ℕ) where
  -- what the next line answers and leaves in the output d
  abbrev Next : Front → Type 0
  Next f = PutsLine (goes_on u f) d 0 (next_line n u f) x e

  pub put-end : {p : Result ℕ Refusal} → located 0 (front (drop 0 s)) ≡ next.End → Puts d 0 (last_line false u) p e → x ≡ end_line p → Next (front s)
  put-end q w t = rw (next-end s 0 q) (last-put d false u x w t)

  pub put-damaged : {p : Result ℕ Refusal} → located 0 (front (drop 0 s)) ≡ next.Damaged → Puts d 0 (last_line true u) p e → x ≡ end_line p → Next (front s)
  put-damaged q w t = rw (next-damaged s 0 q) (last-put d true u x w t)

  pub put-found : {side : Side} {p : Place} (payload : List ℕ) → located 0 (front (drop 0 s)) ≡ next.Record side p → payload ≡ take p.len (drop p.start s)
      → PutsLine (record_line (answered u (record_of side payload)).session) d 0 (line_in n u (record_of side payload)) x e → Next (front s)
  put-found payload q l w = rw ((next-found s 0 q).stands, ← l) w

pub line_by_line : LineByLine
line_by_line = record { by_lines = λ n u s. by n u s (front (reads s)) (front-onto s) }
  where
    by : (n : ℕ) (u : Session) (s : List ℕ) (f : Front) → front s ≡ onto (unread s) f → printed_of n u (records s) ≡ next_line n u f ++ later n u (unread s) f
    by n u s Front.end e = prints-end n u s e ∙ sym (append-nil (last_line false u))
    by n u s Front.damaged e = prints-damaged n u s e ∙ sym (append-nil (last_line true u))
    by n u s (Front.sound r rest) e = prints-sound n u s r (unread s) e
