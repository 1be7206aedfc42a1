use Prim.Native.Nat.{◌-◌}
use lib.ListN.{length}
use Rattle.records_printed.proofs.Replays.{Sized}
use Rattle.records_printed.proofs.whole.size_within.Given as goal

abbrev pub invariant-loop-side : goal.invariant-loop-side
invariant-loop-side l = Sized l.bytes l.session l.number l.at l.to

abbrev pub decreases-loop-side : goal.decreases-loop-side
decreases-loop-side l = length l.bytes - l.at
