use mathlib.Core.Path.{◌≡◌}
use Prim.Native.Nat.{◌-◌, ◌≤◌}
use lib.ListN.{length, drop}
use Rattle.basex_string.specs.Scan.{reading}
use Rattle.basex_string.specs.Answers.{located}
use Rattle.basex_string.proofs.Scans.{seen}
use Rattle.basex_string.proofs.string_at.Given as goal

abbrev pub invariant-loop-i : goal.invariant-loop-i
invariant-loop-i l = (l.len ≤ l.i) × (located (length l.bytes) (reading (drop l.at l.bytes)) ≡ seen (length l.bytes) l.len (reading (drop l.i l.bytes)))

abbrev pub decreases-loop-i : goal.decreases-loop-i
decreases-loop-i l = length l.bytes - l.i
