use mathlib.Core.Path.{sym, ◌∙◌}
use native.Mathlib.Omega.{arith}
use Rattle.basex_string.proofs.Runs.{run_none, run-special, run-plain}
use Rattle.basex_string.proofs.few_end.Goals as goal

pub returns-else-not-is_special : goal.returns-else-not-is_special
returns-else-not-is_special c =
    let e = run-special c.args.s.now c.loop-at.at c.loop-at-test.true (sym c.is_special.ensures ∙ c.if-not-is_special.false) in
    omega arith

pub returns-then-at-from-eq16 : goal.returns-then-at-from-eq16
returns-then-at-from-eq16 c =
    let e = run-plain c.args.s.now c.loop-at.at c.loop-at-test.true (sym c.is_special.ensures ∙ c.if-not-is_special.true) in
    omega arith

pub loop-at-preserved : goal.loop-at-preserved
loop-at-preserved c =
    let e = run-plain c.args.s.now c.loop-at.at c.loop-at-test.true (sym c.is_special.ensures ∙ c.if-not-is_special.true) in
    omega arith

pub returns-after-loop-at : goal.returns-after-loop-at
returns-after-loop-at c =
    let e = run_none c.args.s.now c.loop-at.at c.loop-at-test.false in omega arith
