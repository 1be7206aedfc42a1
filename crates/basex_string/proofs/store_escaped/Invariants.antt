use mathlib.Core.Path.{◌≡◌}
use Prim.Native.Nat.{◌+◌, ◌-◌}
use lib.ListN.{length, drop}
use Rattle.wire.specs.Bytes.{splice}
use Rattle.wire.proofs.Splices.{Ahead}
use Rattle.basex_string.specs.Scan.{reading}
use Rattle.basex_string.specs.inner.Storing.{text_read}
use Rattle.basex_string.proofs.store_escaped.Given as goal

abbrev pub invariant-loop-n : goal.invariant-loop-n
invariant-loop-n l =
    (length l.out ≡ length l.initial.out)
    × ((l.n + length (text_read (reading (drop l.i l.bytes))) ≡ l.len) × Ahead (splice l.initial.out l.to (text_read (reading (drop l.at l.bytes)))) l.out (l.to + l.n) (text_read (reading (drop l.i l.bytes))))

abbrev pub decreases-loop-n : goal.decreases-loop-n
decreases-loop-n l = l.len - l.n
