use Rattle.std.specs.Prelude.{Ok}
use mathlib.Core.Bool.{true, false}
use mathlib.Core.Path.{sym, ap, ◌∙◌}
use native.Mathlib.Omega.{arith}
use Rattle.records.proofs.Fronts.{next-end, next-damaged, next-found}
use Rattle.wire.proofs.Branches.{apart}
use Rattle.records_printed.proofs.Prints.{prints-end, prints-damaged}
use Rattle.records_printed.proofs.Replays.{printing_start, printing_next, printing_last, line_taken, line_known}
use Rattle.records_printed.proofs.whole.put_all.Goals.{in_default-via-in-Ok+in_default, in_default-via-in_default}
use Rattle.records_printed.proofs.whole.put_all.Goals as goal

pub loop-out-init : goal.loop-out-init
loop-out-init c =
    printing_start _ _ c.requires

pub shape_of-out-in-End : goal.shape_of-out-in-End
shape_of-out-in-End c =
    c.put_last_line.auto.out ∙ c.loop-out.invariant.same

pub returns-in-End : goal.returns-in-End
returns-in-End c =
    let a = c.args in
    let l = c.loop-out in
    let e = next-end a.bytes.now l.at (sym c.record_at.ensures ∙ c.in-End.is) in
    printing_last a.bytes.now a.out.now l.out l.session l.number l.at l.to l.invariant false _
    (prints-end l.number l.session _ e) c.requires c.put_last_line.ensures.leaves

pub returns-in-Damaged : goal.returns-in-Damaged
returns-in-Damaged c =
    let a = c.args in
    let l = c.loop-out in
    let e = next-damaged a.bytes.now l.at (sym c.record_at.ensures ∙ c.in-Damaged.is) in
    printing_last a.bytes.now a.out.now l.out l.session l.number l.at l.to l.invariant true _
    (prints-damaged l.number l.session _ e) c.requires c.put_last_line-in-Damaged.ensures.leaves

pub overflow_add-to : goal.overflow_add-to
overflow_add-to c =
    let a = c.args in
    let l = c.loop-out in
    let f = next-found a.bytes.now l.at (sym c.record_at.ensures ∙ c.in-Record.is) in
    let x = line_taken a.bytes.now a.out.now l.out l.session l.number l.at l.to l.invariant f
    c.part-found.ensures c.put_line.ensures in
    let t = line_known x.answers (c.in-Ok-Record.is ∙ ap Ok c.in-Ok-Record.field-0-is) in
    omega (arith, t.0, x.there)

pub overflow_add-number : goal.overflow_add-number
overflow_add-number c =
    let l = c.loop-out in
    omega arith

pub overflow_add-at : goal.overflow_add-at
overflow_add-at c =
    let a = c.args in
    let l = c.loop-out in
    let f = next-found a.bytes.now l.at (sym c.record_at.ensures ∙ c.in-Record.is) in
    omega arith

pub loop-out-smaller : goal.loop-out-smaller
loop-out-smaller c =
    let a = c.args in
    let l = c.loop-out in
    let f = next-found a.bytes.now l.at (sym c.record_at.ensures ∙ c.in-Record.is) in
    omega arith

pub loop-out-preserved : goal.loop-out-preserved
loop-out-preserved c =
    let a = c.args in
    let l = c.loop-out in
    let f = next-found a.bytes.now l.at (sym c.record_at.ensures ∙ c.in-Record.is) in
    let x = line_taken a.bytes.now a.out.now l.out l.session l.number l.at l.to l.invariant f c.part-found.ensures
    c.put_line.ensures in
    let t = line_known x.answers (c.in-Ok-Record.is ∙ ap Ok c.in-Ok-Record.field-0-is) in
    printing_next a.bytes.now a.out.now l.out l.session l.number l.at l.to l.invariant _ _ _ f t.1 t.0
    c.put_line.auto.out x.leaves

pub unreachable-requires : goal.unreachable-requires
unreachable-requires c =
    let a = c.args in
    let l = c.loop-out in
    let f = next-found a.bytes.now l.at (sym c.record_at.ensures ∙ c.in-Record.is) in
    let x = line_taken a.bytes.now a.out.now l.out l.session l.number l.at l.to l.invariant f c.part-found.ensures c.put_line.ensures in
    elim c.in_default.branch [ in_default-via-in-Ok+in_default w ↦ apart (cc) | in_default-via-in_default w ↦ apart (cc) ]
