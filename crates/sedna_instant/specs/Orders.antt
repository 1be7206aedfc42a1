-- Document 02, request 1: "Instants are ordered by these alone", the seconds and the nanoseconds.
use lib.{Dec.ltb, Signed.lt_z}
use Rattle.wire.specs.Bytes.{if}
use Rattle.std.specs.declared.cmp.Ordering.{Ordering}
use Rattle.sedna_instant.specs.declared.Instant.{Instant}

unfoldable pub ordered : Instant → Instant → Ordering
ordered a b =
    if (lt_z a.seconds b.seconds) Ordering.Less
    (if (lt_z b.seconds a.seconds) Ordering.Greater (if (ltb a.nanos b.nanos) Ordering.Less (if (ltb b.nanos a.nanos) Ordering.Greater Ordering.Equal)))
