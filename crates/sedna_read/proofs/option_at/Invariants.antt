use mathlib.Core.Path.{◌≡◌}
use Prim.Native.Nat.{◌-◌}
use lib.ListN.{take, drop}
use Rattle.sedna_read.specs.Places.{option_at}
use Rattle.sedna_read.proofs.option_at.Given as goal

abbrev pub invariant-loop : goal.invariant-loop
invariant-loop l = option_at l.k l.fn.pairs.start (take l.fn.pairs.len (drop l.fn.pairs.start l.bytes)) ≡ option_at (l.k - l.counter) l.fields.at l.fields.bytes
