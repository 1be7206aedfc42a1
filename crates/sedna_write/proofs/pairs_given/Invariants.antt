use mathlib.Core.Path.{◌≡◌}
use lib.Dec.{eqb}
use lib.ListN.{drop}
use Rattle.sedna_write.specs.Pairs.{given, sum}
use Rattle.sedna_write.proofs.pairs_given.Given as goal

abbrev pub invariant-loop-n : goal.invariant-loop-n
invariant-loop-n l = given l.ids l.lengths l.values ≡ eqb l.rest (sum (drop l.n-index l.lengths))
