use mathlib.Core.Path.{◌≡◌}
use Prim.Native.Nat.{◌-◌, ◌+◌, ◌≤◌}
use lib.ListN.{length, drop}
use Rattle.basex.specs.Texts.{texts_stored}
use Rattle.basex.proofs.store_judged_texts.Given as goal

abbrev pub invariant-loop : goal.invariant-loop
invariant-loop l =
    ((l.at ≤ l.from) × (l.from ≤ l.at + (length l.bytes - l.at)))
    × (texts_stored l.n l.initial.out l.to (drop l.at l.bytes) ≡ texts_stored (l.n - l.counter) l.out l.end (drop l.from l.bytes))
