use mathlib.Core.Path.{◌≡◌}
use Prim.Native.Nat.{◌+◌}
use lib.ListN.{length, drop}
use Rattle.wire.specs.Bytes.{splice}
use Rattle.wire.proofs.Splices.{Ahead}
use Rattle.sedna.specs.Encode.{pairs_bytes}
use Rattle.sedna_write.specs.Pairs.{pairs_of, sum}
use Rattle.sedna_write.proofs.put_pairs.Given as goal

-- the options that are left are ahead, and their values from `from` on
abbrev pub invariant-loop-id : goal.invariant-loop-id
invariant-loop-id l =
    (length l.out ≡ length l.initial.out)
    × (length l.id-iterator.a.rest.now ≡ length l.id-iterator.b.rest.now)
    × (l.from + sum l.id-iterator.b.rest.now ≡ length l.values)
    × Ahead (splice l.initial.out 8 (pairs_bytes (pairs_of l.ids l.lengths l.values))) l.out l.at (pairs_bytes (pairs_of l.id-iterator.a.rest.now l.id-iterator.b.rest.now (drop l.from l.values)))
