use mathlib.Core.Path.{◌≡◌}
use Prim.Native.Nat.{◌+◌}
use lib.ListN.{length, drop}
use Rattle.wire.specs.Bytes.{splice}
use Rattle.wire.proofs.Splices.{Ahead}
use Rattle.basex_string.specs.Strings.{string}
use Rattle.basex_string.proofs.store_few.Given as goal

abbrev pub invariant-loop-b : goal.invariant-loop-b
invariant-loop-b l =
    (l.to + length (string (drop l.b-index l.part)) ≡ l.at + length (string l.part))
    × Ahead (splice l.initial.out l.at (string l.part)) l.out l.to (string (drop l.b-index l.part))
