use mathlib.Core.Path.{◌≡◌}
use Prim.Native.Nat.{◌+◌, ◌-◌, ◌≤◌}
use lib.ListN.{length}
use Rattle.basex_string.proofs.Unescaping.{Unescaping}
use Rattle.basex_string.proofs.put.store_judged_text.Given as goal

abbrev pub invariant-loop-i : goal.invariant-loop-i
invariant-loop-i l = (length l.out ≡ length l.initial.out) × ((l.at ≤ l.i) × (l.i ≤ l.at + (length l.bytes - l.at))) × Unescaping l.bytes l.initial.out l.at l.to l.out l.i l.n

abbrev pub decreases-loop-i : goal.decreases-loop-i
decreases-loop-i l = length l.bytes - l.i
