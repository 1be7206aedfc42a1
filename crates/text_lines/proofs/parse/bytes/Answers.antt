use mathlib.Core.Path.{ap, ◌∙◌}
use Rattle.text_lines.specs.declared.cut.Parts.{Parts}
use Rattle.text_lines.proofs.Fronts.{refuses, found, lost}
use Rattle.text_lines.proofs.Texts.{text-short, worded_start, worded_none, worded_next, worded_end}
use Rattle.text_lines.proofs.parse.bytes.Goals as goal

pub returns-then-out-from : goal.returns-then-out-from
returns-then-out-from c =
    let a = c.args in
    refuses (text-short a.out.now a.from a.text.now c.if-out-from.true)

pub loop-w-init : goal.loop-w-init
loop-w-init c =
    let a = c.args in
    let i = c.into_iter-w-iterator.ensures.into_iter_gives in
    let o = c.of-w-items.ensures in
    record {
      ends = ap (λ (p : Parts). p.end) i ∙ o.1;
      worded = rw (i, o.0) (worded_start a.out.now a.from a.text.now c.if-out-from.false);
    }

pub returns-in_err-n : goal.returns-in_err-n
returns-in_err-n c =
    let l = c.loop-w in
    let p = c.in-Some.ensures.steps in
    rw c.from_residual.ensures (refuses (worded_none l.invariant.worded p.0 l.invariant.ends (lost _ c.word.ensures c.in_err-n.was)))

pub loop-w-preserved : goal.loop-w-preserved
loop-w-preserved c =
    let l = c.loop-w in
    let p = c.in-Some.ensures.steps in
    record { ends = p.1 ∙ l.invariant.ends; worded = worded_next l.invariant.worded p.0 l.invariant.ends (found _ c.word.ensures c.in_ok-n.was) }

pub returns : goal.returns
returns c = worded_end c.loop-w.invariant.worded c.in-None.ensures.steps
