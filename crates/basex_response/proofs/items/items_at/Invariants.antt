use mathlib.Core.Path.{◌≡◌}
use Prim.Native.Nat.{◌+◌, ◌-◌, ◌≤◌}
use lib.ListN.{length, drop}
use Rattle.basex_response.specs.Items.{list}
use Rattle.basex_response.specs.inner.Judging.{items_at}
use Rattle.basex_response.proofs.Walk.{after}
use Rattle.basex_response.proofs.items.items_at.Given as goal

abbrev pub invariant-loop-next : goal.invariant-loop-next
invariant-loop-next l = (l.count + l.at ≤ l.from) × (l.listed + l.at ≤ l.from)
    × (items_at l.at (length l.bytes - l.at) (list l.full (drop l.at l.bytes)) ≡ after l.count l.listed (items_at l.from (length l.bytes - l.from) (list l.full (drop l.from l.bytes))))

abbrev pub decreases-loop-next : goal.decreases-loop-next
decreases-loop-next l = length l.bytes - l.from
