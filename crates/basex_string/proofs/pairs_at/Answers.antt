use mathlib.Core.Path.{sym, ◌∙◌}
use native.Mathlib.Omega.{arith}
use Rattle.basex_string.proofs.Pairs.{pairs-more}
use Rattle.basex_string.proofs.pairs_at.Goals as goal

pub loop-n-preserved : goal.loop-n-preserved
loop-n-preserved c =
    let e = pairs-more c.args.s.now c.loop-n.at (omega arith) c.if-s-at.true (sym c.is_special.ensures ∙ c.if-is_special.true) in
    omega arith
