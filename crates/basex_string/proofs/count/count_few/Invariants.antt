use mathlib.Core.Path.{◌≡◌}
use Prim.Native.Nat.{◌+◌, ◌≤◌}
use lib.ListN.{drop}
use Rattle.basex_string.specs.inner.Runs.{specials}
use Rattle.basex_string.proofs.count.count_few.Given as goal

abbrev pub invariant-loop-b : goal.invariant-loop-b
invariant-loop-b l = (l.n ≤ l.b-index) × (l.n + specials (drop l.b-index l.part) ≡ specials l.part)
