use mathlib.Core.Path.{◌≡◌}
use Prim.Native.Nat.{◌+◌, ◌*◌, ◌-◌, ◌≤◌}
use lib.ListN.{length, drop}
use Rattle.wire.specs.Bytes.{splice}
use Rattle.wire.proofs.Splices.{Ahead}
use Rattle.basex_string.specs.Scan.{reading}
use Rattle.basex_string.specs.inner.Storing.{text_read}
use Rattle.basex_string.proofs.Pairs.{behind}
use Rattle.basex_string.proofs.put_pairs.Given as goal

abbrev pub invariant-loop-n : goal.invariant-loop-n
invariant-loop-n l =
    (length l.out ≡ length l.initial.out)
    × ((l.from + 2 * l.n ≤ length l.bytes)
    × ((l.n + length (behind l.bytes l.from l.n) ≡ l.most) × Ahead (splice l.initial.out l.to (text_read (reading (drop l.from l.bytes)))) l.out (l.to + l.n) (behind l.bytes l.from l.n)))

abbrev pub decreases-loop-n : goal.decreases-loop-n
decreases-loop-n l = l.most - l.n
