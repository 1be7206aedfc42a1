use mathlib.Core.Path.{refl}
use mathlib.Core.Bool.{true}
use native.Mathlib.Omega.{arith}
use Rattle.parts_cut.specs.Cut.{cut_item}
use Rattle.parts_cut.proofs.Cuts.{item_first, item_following}
use Rattle.parts_cut.proofs.Answers.{settles}
use Rattle.parts_cut.proofs.write_item_part.Goals as goal

pub returns-in-0 : goal.returns-in-0
returns-in-0 c =
    let a = c.args in
    settles true true (cut_item a.text.now) a.k a.out.now _ _ refl refl
    (item_first a.text.now a.k c.in-0.is c.first.ensures)
    c.write_text.ensures

pub returns-in_default : goal.returns-in_default
returns-in_default c =
    let a = c.args in
    settles true true (cut_item a.text.now) a.k a.out.now _ _ refl refl
    (item_following a.text.now a.k (omega arith) c.rest.ensures)
    c.write_following.ensures
