use mathlib.Core.Path.{◌≡◌}
use lib.ListN.{drop}
use Rattle.sedna.specs.Table.{rows, find_of, search as scan}
use Rattle.sedna.proofs.find.Given as goal

abbrev pub invariant-loop-entry : goal.invariant-loop-entry
invariant-loop-entry l = (l.entry-items ≡ rows) × (find_of l.instruction ≡ scan l.instruction (drop l.entry-index l.entry-items))
