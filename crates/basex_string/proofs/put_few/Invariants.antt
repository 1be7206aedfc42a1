use mathlib.Core.Path.{◌≡◌}
use Prim.Native.Nat.{◌+◌, ◌-◌, ◌<◌}
use lib.ListN.{length, drop}
use Rattle.wire.specs.Bytes.{splice}
use Rattle.basex_string.specs.Scan.{reading}
use Rattle.basex_string.specs.inner.Storing.{text_read}
use Rattle.basex_string.proofs.Few.{Midst}
use Rattle.basex_string.proofs.put_few.Given as goal

abbrev pub invariant-loop-count : goal.invariant-loop-count
invariant-loop-count l =
    (length l.out ≡ length l.initial.out) × ((l.i < l.from + 16) × Midst l.bytes l.from l.most (splice l.initial.out l.to (text_read (reading (drop l.from l.bytes)))) l.out l.to l.count l.i l.escaped)

abbrev pub decreases-loop-count : goal.decreases-loop-count
decreases-loop-count l = length l.bytes - l.i
