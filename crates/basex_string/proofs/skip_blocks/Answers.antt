use mathlib.Core.Path.{sym, ◌∙◌}
use native.Mathlib.Omega.{arith}
use borrow.Author.Tests.{leb-true}
use Rattle.basex_string.proofs.Runs.{skip_next}
use Rattle.basex_string.proofs.skip_blocks.Goals as goal

pub loop-at-preserved : goal.loop-at-preserved
loop-at-preserved c = (
  omega arith,
  skip_next c.args.s.now c.args.from c.loop-at.at 16
      (omega arith) (omega arith) (leb-true _ _ (sym c.plain_block.ensures ∙ c.if-plain_block.true)),
)
