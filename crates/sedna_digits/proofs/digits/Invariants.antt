use mathlib.Core.Path.{◌≡◌}
use Prim.Native.Nat.{◌+◌}
use lib.ListN.{drop}
use Rattle.sedna_digits.proofs.Walks.{Walked}
use Rattle.sedna_digits.proofs.digits.Given as goal

abbrev pub invariant-loop-b : goal.invariant-loop-b
invariant-loop-b l = record { ahead : l.b-items ≡ drop l.at l.s; end_is : l.run.end ≡ l.at + l.b-index; walked : Walked l.s l.at l.run.end l.run.number }
