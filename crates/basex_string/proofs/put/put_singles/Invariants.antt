use mathlib.Core.Path.{◌≡◌}
use Prim.Native.Nat.{◌-◌, ◌≤◌}
use lib.ListN.{length, drop}
use Rattle.basex_string.specs.inner.Runs.{run}
use Rattle.basex_string.proofs.Copies.{Copied}
use Rattle.basex_string.proofs.put.put_singles.Given as goal

abbrev pub invariant-loop-k : goal.invariant-loop-k
invariant-loop-k l = (length l.out ≡ length l.initial.out) × (l.k ≤ l.most) × (l.k ≤ run (drop l.from l.bytes)) × Copied l.bytes l.initial.out l.from l.to l.out l.k

abbrev pub decreases-loop-k : goal.decreases-loop-k
decreases-loop-k l = l.most - l.k
