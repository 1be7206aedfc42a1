use mathlib.Core.Path.{sym, ◌∙◌}
use native.Mathlib.Omega.{arith}
use Rattle.text_lines.proofs.Sames.{same_pointwise}
use Rattle.text_lines.proofs.Words.{takes-shorter, ahead_here, ahead-on, ahead-end}
use Rattle.text_lines.proofs.cut.position.Goals as goal

pub loop-one-preserved : goal.loop-one-preserved
loop-one-preserved c =
    let l = c.loop-one in
    let p = c.in-Some.ensures.steps in
    let h = takes-shorter p.0 in
    let e = ahead-on p.0 c.args.word.now l.invariant.ends (sym (c.eq.ensures ∙ same_pointwise c.in-Some.one.now c.args.word.now) ∙ c.if-eq.false) in
    record { bounds = omega arith; ends = p.1 ∙ l.invariant.ends; counts = omega arith }

pub returns-then-eq : goal.returns-then-eq
returns-then-eq c =
    let e = ahead_here c.in-Some.ensures.steps.0 c.args.word.now c.loop-one.invariant.ends (sym (c.eq.ensures ∙ same_pointwise c.in-Some.one.now c.args.word.now) ∙ c.if-eq.true) in
    omega arith

pub returns : goal.returns
returns c =
    let e = ahead-end c.in-None.ensures.steps c.args.word.now in
    omega arith
