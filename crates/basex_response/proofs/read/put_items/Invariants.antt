use mathlib.Core.Path.{◌≡◌}
use Prim.Native.Nat.{◌-◌, ◌≤◌}
use lib.ListN.{length, drop}
use Rattle.basex_response.specs.Items.{list}
use Rattle.basex_response.specs.inner.Judging.{list_stored}
use Rattle.basex_response.proofs.Storing.{Going}
use Rattle.basex_response.proofs.read.put_items.Given as goal

abbrev pub invariant-loop : goal.invariant-loop
invariant-loop l = (l.counter ≤ l.count) × (length l.out ≡ length l.initial.out) × (l.at ≤ l.from)
    × Going l.full l.bytes (list_stored l.initial.out l.to (list l.full (drop l.at l.bytes))) l.from (l.count - l.counter) l.out l.end
