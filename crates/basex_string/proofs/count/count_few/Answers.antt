use mathlib.Core.Path.{sym, ◌∙◌}
use native.Mathlib.Omega.{arith}
use Rattle.basex_string.proofs.Steps.{specials-end, specials-special, specials-plain}
use Rattle.basex_string.proofs.count.count_few.Goals as goal
use Rattle.basex_string.proofs.count.count_few.Goals.{else-is_special, then-is_special}

pub returns : goal.returns
returns c =
    let e = specials-end c.args.part.now c.loop-b.b-index (omega arith) in omega arith

pub loop-b-preserved : goal.loop-b-preserved
loop-b-preserved c =
    let s = c.args.part.now in
    let i = c.loop-b.b-index in
    let e = sym c.is_special.ensures in
    elim c.if-is_special.branch [
      | then-is_special w ↦ let k = specials-special s i (omega arith) (e ∙ w.if-is_special.true) in omega arith
      | else-is_special w ↦ let k = specials-plain s i (omega arith) (e ∙ w.if-is_special.false) in omega arith
    ]
