use Rattle.std.proofs.lemmas.Result.{err_from_is_err_and}
use mathlib.Core.Bool.{true, false}
use mathlib.Core.Path.{sym, ap, ◌∙◌}
use lib.ListN.{length}
use native.Mathlib.Omega.{arith}
use Rattle.records.proofs.Fronts.{next-end, next-damaged, next-found}
use Rattle.records_printed.proofs.Prints.{prints-end, prints-damaged}
use Rattle.records_printed.proofs.Replays.{sized_start, sized_next, sized_not, sized_last, line-answered, line_measured}
use Rattle.records_printed.proofs.whole.size_within.Goals as goal

pub loop-side-init : goal.loop-side-init
loop-side-init c =
    sized_start _

pub returns-in-End : goal.returns-in-End
returns-in-End c =
    let a = c.args in
    let l = c.loop-side in
    let e = next-end a.bytes.now l.at (sym c.record_at.ensures ∙ c.in-End.is) in
    c.with_more.ensures
    ∙ sized_last a.bytes.now a.room l.session l.number l.at l.to l.invariant false _ (prints-end l.number l.session _ e) (ap length c.last_line.ensures)

pub returns-in-Damaged : goal.returns-in-Damaged
returns-in-Damaged c =
    let a = c.args in
    let l = c.loop-side in
    let e = next-damaged a.bytes.now l.at (sym c.record_at.ensures ∙ c.in-Damaged.is) in
    c.with_more-in-Damaged.ensures
    ∙ sized_last a.bytes.now a.room l.session l.number l.at l.to l.invariant true _ (prints-damaged l.number l.session _ e) (ap length c.last_line-in-Damaged.ensures)

pub returns-in_err-to-in-Record : goal.returns-in_err-to-in-Record
returns-in_err-to-in-Record c =
    let p = err_from_is_err_and c.from_residual.result c.from_residual.ensures.1 in
    let a = c.args in
    let l = c.loop-side in
    let f = next-found a.bytes.now l.at (sym c.record_at.ensures ∙ c.in-Record.is) in
    let n = line_measured l.number l.session f c.part-found.ensures c.answer-a.ensures
    c.measure-w.ensures in
    rw (p.1, p.2)
    (sized_not a.bytes.now a.room l.session l.number l.at l.to l.invariant _ _ f n (sym (rw c.line.ensures at c.with_more-in-Record.ensures) ∙ c.in_err-to-in-Record.was))

pub overflow_add-number : goal.overflow_add-number
overflow_add-number c =
    let l = c.loop-side in
    omega arith

pub overflow_add-at : goal.overflow_add-at
overflow_add-at c =
    let a = c.args in
    let l = c.loop-side in
    let f = next-found a.bytes.now l.at (sym c.record_at.ensures ∙ c.in-Record.is) in
    omega arith

pub loop-side-smaller : goal.loop-side-smaller
loop-side-smaller c =
    let a = c.args in
    let l = c.loop-side in
    let f = next-found a.bytes.now l.at (sym c.record_at.ensures ∙ c.in-Record.is) in
    omega arith

pub loop-side-preserved : goal.loop-side-preserved
loop-side-preserved c =
    let a = c.args in
    let l = c.loop-side in
    let f = next-found a.bytes.now l.at (sym c.record_at.ensures ∙ c.in-Record.is) in
    let n = line_measured l.number l.session f c.part-found.ensures c.answer-a.ensures c.measure-w.ensures in
    let v = line-answered l.number l.session f c.part-found.ensures c.answer-a.ensures in
    sized_next a.bytes.now a.room l.session l.number l.at l.to l.invariant _ _ _ f v n
    (sym (rw c.line.ensures at c.with_more-in-Record.ensures) ∙ c.in_ok-to-in-Record.was)
