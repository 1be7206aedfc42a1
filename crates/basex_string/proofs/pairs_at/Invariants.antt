use mathlib.Core.Path.{◌≡◌}
use Prim.Native.Nat.{◌+◌, ◌*◌, ◌-◌, ◌≤◌}
use lib.ListN.{length, drop}
use Rattle.basex_string.specs.inner.Runs.{pairs}
use Rattle.basex_string.proofs.pairs_at.Given as goal

abbrev pub invariant-loop-n : goal.invariant-loop-n
invariant-loop-n l = (l.at ≡ l.from + 2 * l.n) × ((l.at ≤ length l.s) × (pairs (drop l.from l.s) ≡ l.n + pairs (drop l.at l.s)))

abbrev pub decreases-loop-n : goal.decreases-loop-n
decreases-loop-n l = length l.s - l.at
