use Prim.Native.Nat.{◌-◌}
use lib.ListN.{length}
use Rattle.records_printed.proofs.Replays.{Printing}
use Rattle.records_printed.proofs.whole.put_all.Given as goal

abbrev pub invariant-loop-out : goal.invariant-loop-out
invariant-loop-out l = Printing l.bytes l.initial.out l.out l.session l.number l.at l.to

abbrev pub decreases-loop-out : goal.decreases-loop-out
decreases-loop-out l = length l.bytes - l.at
