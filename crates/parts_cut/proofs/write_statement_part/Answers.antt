use mathlib.Core.Path.{refl, sym, ◌∙◌}
use mathlib.Core.Bool.{true}
use native.Mathlib.Omega.{arith}
use Rattle.sedna.specs.Allowed.{format_allowed}
use Rattle.parts_cut.specs.Cut.{cut_statement}
use Rattle.parts_cut.proofs.Cuts.{statement_sole, statement_sole_past, statement_piece, statement-end, statement_past}
use Rattle.parts_cut.proofs.Answers.{missing, settles}
use Rattle.parts_cut.proofs.write_statement_part.Goals as goal

pub returns-in-0 : goal.returns-in-0
returns-in-0 c =
    let a = c.args in
    settles (format_allowed a.format) true (cut_statement a.format a.text.now) a.k a.out.now _ _
    (sym c.format_allowed.ensures ∙ c.if-not-format_allowed.false) refl
    (statement_sole a.format a.text.now a.k (omega arith) (omega arith))
    c.write_statement.ensures

pub returns-in_default : goal.returns-in_default
returns-in_default c =
    let a = c.args in
    settles (format_allowed a.format) true (cut_statement a.format a.text.now) a.k a.out.now _ _
    (sym c.format_allowed.ensures ∙ c.if-not-format_allowed.false) refl
    (statement_sole_past a.format a.text.now a.k (omega arith) (omega arith))
    (missing a.out.now)

pub returns-then-k-count : goal.returns-then-k-count
returns-then-k-count c =
    let a = c.args in
    settles (format_allowed a.format) true (cut_statement a.format a.text.now) a.k a.out.now _ _
    (sym c.format_allowed.ensures ∙ c.if-not-format_allowed.false) refl
    (statement_piece a.format a.text.now a.k (omega arith) (omega arith) c.piece.ensures)
    c.write_statement-then-k-count.ensures

pub returns-then-k-count-2 : goal.returns-then-k-count-2
returns-then-k-count-2 c =
    let a = c.args in
    settles (format_allowed a.format) true (cut_statement a.format a.text.now) a.k a.out.now _ _
    (sym c.format_allowed.ensures ∙ c.if-not-format_allowed.false) refl
    (statement-end a.format a.text.now a.k (omega arith) (omega arith))
    c.write_empty.ensures

pub returns-else-k-count-2 : goal.returns-else-k-count-2
returns-else-k-count-2 c =
    let a = c.args in
    settles (format_allowed a.format) true (cut_statement a.format a.text.now) a.k a.out.now _ _
    (sym c.format_allowed.ensures ∙ c.if-not-format_allowed.false) refl
    (statement_past a.format a.text.now a.k (omega arith) (omega arith))
    (missing a.out.now)
