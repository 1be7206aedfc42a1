use mathlib.Core.List.{[], ◌∷◌}
use mathlib.Core.Path.{refl}
use Prim.Native.Nat.{◌<◌}
use native.Mathlib.Omega.{arith}
use lib.ListN.{length}
use lib.Seq.{sets-eq}
use mir.Facts.{to_z-of_z}
use mir.Syntax.{w64}
use mir.Val.{SFits}
use borrow.Author.Rules.{rules}
use borrow.Author.Tests.{le-ltb}
use Rattle.std.proofs.lemmas.Grind.{common_steps}
use Rattle.value_c.specs.Values.{lent_outcome}
use Rattle.value_c.proofs.tell.Goals as goal

pub returns : goal.returns
unfolding lent_outcome
returns c =
    let n = c.from-told.result in
    let first : SFits w64 n.first = search rules in
    let second : SFits w64 n.second = search rules in
    let some : 0 < length c.args.doubles.now = grind (arith, common_steps) in
    rw (← c.from-told.ensures, le-ltb _ _ c.if-numbers-lt2.false, le-ltb _ _ some) (record {
      answers = refl;
      leaves_numbers = rw (to_z-of_z first, to_z-of_z second) (sets-eq (n.first ∷ n.second ∷ []) c.args.numbers.now 0 c.if-numbers-lt2.false);
      leaves_doubles = sets-eq (n.double ∷ []) c.args.doubles.now 0 some;
    })
