use mathlib.Core.Path.{sym, ap, ◌∙◌}
use native.Mathlib.Omega.{arith}
use lib.Dec.{eqb}
use Rattle.sedna_write.proofs.Given.{given_uneven, given-start, given-short, given-next, sum-end}
use Rattle.sedna_write.proofs.pairs_given.Goals as goal

pub returns-then-ids-lengths : goal.returns-then-ids-lengths
returns-then-ids-lengths c = sym (given_uneven c.args.ids.now c.args.lengths.now c.args.values.now c.if-ids-lengths.true)

pub loop-n-init : goal.loop-n-init
loop-n-init c = given-start c.args.ids.now c.args.lengths.now c.args.values.now c.if-ids-lengths.false

pub returns-then-rest-n : goal.returns-then-rest-n
returns-then-rest-n c = let l = c.loop-n in sym (l.invariant ∙ given-short c.args.lengths.now l.n-index l.rest (omega arith) c.if-rest-n.true)

pub loop-n-preserved : goal.loop-n-preserved
loop-n-preserved c = let l = c.loop-n in l.invariant ∙ given-next c.args.lengths.now l.n-index l.rest (omega arith) c.if-rest-n.false

pub returns : goal.returns
returns c = let l = c.loop-n in sym (l.invariant ∙ ap (eqb l.rest) (sum-end c.args.lengths.now l.n-index (omega arith)))
