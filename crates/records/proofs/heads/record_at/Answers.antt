use mathlib.Core.Path.{sym, ap, ◌∙◌}
use Rattle.records.specs.Places.{located}
use Rattle.records.proofs.Fronts.{front-none, next-bad, next-cut, next-whole}
use Rattle.records.proofs.heads.record_at.Goals as goal

pub returns-then-n-at : goal.returns-then-n-at
returns-then-n-at c =
    let a = c.args in
    sym (ap (located a.at) (front-none a.bytes.now a.at c.if-n-at.true))

pub returns-then-n-start : goal.returns-then-n-start
returns-then-n-start c =
    let a = c.args in
    next-cut a.bytes.now a.at c.if-n-at.false
    (sym c.judge_head.ensures.answers ∙ c.in-Some.is) c.if-n-start.true

pub returns-in_default : goal.returns-in_default
returns-in_default c =
    let a = c.args in
    next-bad a.bytes.now a.at c.if-n-at.false (sym c.judge_head.ensures.answers ∙ c.in_default.is)

pub returns : goal.returns
returns c =
    let a = c.args in
    next-whole a.bytes.now a.at c.if-n-at.false
    (sym c.judge_head.ensures.answers ∙ c.in-Some.is) c.if-n-start.false
