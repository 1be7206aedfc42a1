use mathlib.Core.List.{List, ◌++◌}
use mathlib.Core.Path.{refl, ap}
use Prim.Native.Nat.{ℕ}
use borrow.Author.Tests.{le-ltb}
use lib.ListN.{length, drop}
use Rattle.basex_c.proofs.numbers.tell.Goals as goal

pub returns : goal.returns
returns c =
    let rest : List ℕ = drop (length c.args.numbers.now) c.args.told.now in
    rw (le-ltb _ _ c.if-told-numbers.false) (record { answers = refl; leaves = ap (λ (l : List ℕ). l ++ rest) c.copy_from_slice.ensures.after })
