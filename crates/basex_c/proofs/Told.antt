-- Where nothing is told, nothing has to be lent.
use mathlib.Core.Path.{refl}
use mathlib.Core.List.{List, []}
use Prim.Native.Nat.{ℕ}
use native.Mathlib.Omega.{arith}
use borrow.Author.Tests.{le-ltb}
use lib.ListN.{length}
use Rattle.basex_c.specs.Codes.{Outcome, lent, Tells}

pub nothing_told : (d : List ℕ) → Tells (lent (length d) (Outcome.counted 0 [])) d 0 d
nothing_told d = rw (le-ltb (length d) 0 (omega arith)) (record { answers = refl; leaves = refl })
