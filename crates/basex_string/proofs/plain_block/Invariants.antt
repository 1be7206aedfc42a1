use mathlib.Core.Path.{◌≡◌}
use lib.Dec.{leb}
use lib.ListN.{drop}
use Rattle.basex_string.specs.inner.Runs.{run}
use Rattle.basex_string.proofs.plain_block.Given as goal

abbrev pub invariant-loop-b : goal.invariant-loop-b
invariant-loop-b l = l.plain ≡ leb l.b-index (run (drop l.at l.fn.s))
