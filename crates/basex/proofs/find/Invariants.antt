use mathlib.Core.Path.{◌≡◌}
use lib.ListN.{drop}
use Rattle.basex.specs.Kinds.{kinds, find_of, search as scan}
use Rattle.basex.proofs.find.Given as goal

abbrev pub invariant-loop-k : goal.invariant-loop-k
invariant-loop-k l = (l.k-items ≡ kinds) × (find_of l.first ≡ scan l.b (drop l.k-index l.k-items))
