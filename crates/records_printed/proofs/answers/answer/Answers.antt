use mathlib.Core.Path.{sym, ap, ◌∙◌}
use borrow.Author.Tests.{lt-ltb, le-ltb}
use Rattle.session.specs.declared.Stepped.{Stepped}
use Rattle.records_printed.proofs.Answering.{answer-refused, answer-taken}
use Rattle.records_printed.proofs.answers.answer.Goals as goal

pub returns-in-Err : goal.returns-in-Err
returns-in-Err c =
    let a = c.args in
    let e = ap (λ (s : Stepped). s.answer) (sym c.step-step.ensures) ∙ c.in-Err.is in
    rw c.refused_with.ensures (answer-refused a.session a.side a.payload.now _ e)

pub returns-in-Ok : goal.returns-in-Ok
returns-in-Ok c =
    let a = c.args in
    let m = c.in-Ok.m in
    let e = ap (λ (s : Stepped). s.answer) (sym c.step-step.ensures) ∙ c.in-Ok.is in
    rw c.number-number.ensures
    (rw (lt-ltb _ _ c.if-m-payload.true) at (answer-taken a.session a.side a.payload.now m.instruction m.places m.count e))

pub returns-in-Ok-2 : goal.returns-in-Ok-2
returns-in-Ok-2 c =
    let a = c.args in
    let m = c.in-Ok.m in
    let e = ap (λ (s : Stepped). s.answer) (sym c.step-step.ensures) ∙ c.in-Ok.is in
    rw c.step-step.ensures
    (rw (le-ltb _ _ c.if-m-payload.false) at (answer-taken a.session a.side a.payload.now m.instruction m.places m.count e))
