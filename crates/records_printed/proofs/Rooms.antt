-- A record's line, where it fits and where it does not.
use Rattle.std.specs.Prelude.{Ok, Err}
use mathlib.Core.List.{List}
use mathlib.Core.Path.{◌≡◌, sym, ap, ◌∙◌}
use Prim.Native.Nat.{ℕ, ◌+◌, ◌≤◌}
use native.Mathlib.Omega.{arith}
use lib.ListN.{length}
use Rattle.wire.specs.Call.{in_room, put_at}
use Rattle.wire.specs.declared.Refusal.{Refusal}
use Rattle.wire.proofs.Call.{room-there, refused-short}
use Rattle.wire.proofs.Splices.{put_at_not}
use Rattle.session.specs.declared.Session.{Session}
use Rattle.records.specs.Record.{Record}
use Rattle.records_printed.specs.declared.Answered.{Answered}
use Rattle.records_printed.specs.declared.CountedLine.TheVariants as line
use Rattle.records_printed.specs.declared.Widths.{Widths}
use Rattle.records_printed.specs.Answer.{answered}
use Rattle.records_printed.specs.Line.{line, line_in}
use Rattle.records_printed.specs.Output.{record_line, PutsLine}
use Rattle.records_printed.specs.Unchanged.{Untouched}
use Rattle.records_printed.specs.inner.Line.{width_of, Measures}
use Rattle.records_printed.proofs.Lines.{line_width}

-- text that finds no room
pub text-refused : (d : List ℕ) (at : ℕ) (text : List ℕ) (x : Refusal) → in_room (length d) at (length text) ≡ Err x → Untouched d at text x
text-refused d at text x e = let h = refused-short _ _ _ x e in (h.0, put_at_not d at text h.1)

-- a record was answered, and its line measured
module _ (n : ℕ) (s : Session) (r : Record) (a : Answered) (e : a ≡ answered s r) (w : Widths) (m : Measures n r.payload a.number w) where
  pub line-count : width_of w ≡ length (line_in n s r)
  line-count = line_width n r a.number w m.answers ∙ ap (λ (x : Answered). length (line n r x.number)) e

  pub line-short : length (line_in n s r) ≤ 38
  line-short = omega (arith, line-count, m.short)

  module _ (d : List ℕ) (at : ℕ) where
    pub line-put : {count : ℕ} {after : List ℕ} → in_room (length d) at (width_of w) ≡ Ok count → after ≡ put_at d at (line n r a.number)
        → PutsLine (record_line (answered s r).session) d at (line_in n s r) (Ok (line.Record count a.session)) after
    line-put {count} h p = record {
      answers = rw (← line-count, h) (ap (λ (x : Answered). (Ok (line.Record count x.session))) e);
      leaves = p ∙ ap (λ (x : Answered). put_at d at (line n r x.number)) e;
      short = line-short;
    }

    pub line_not : {x : Refusal} → in_room (length d) at (width_of w) ≡ Err x
        → PutsLine (record_line (answered s r).session) d at (line_in n s r) (Err x) d
    line_not {x} h = record {
      answers = rw (← line-count, h);
      leaves = sym (text-refused d at (line_in n s r) x (ap (in_room (length d) at) (sym line-count) ∙ h)).1;
      short = line-short;
    }

-- where there is room, the answer tells the line's length and the session after the record
pub line-there : (room at n : ℕ) (s : Session) (r : Record) → at + length (line_in n s r) ≤ room
    → record_line (answered s r).session (in_room room at (length (line_in n s r))) ≡ Ok (line.Record (length (line_in n s r)) (answered s r).session)
line-there room at n s r h = ap (record_line (answered s r).session) (room-there room at _ h)
