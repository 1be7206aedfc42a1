use mathlib.Core.Path.{refl, sym, ◌∙◌}
use mathlib.Core.Bool.{true}
use native.Mathlib.Omega.{arith}
use Rattle.sedna.specs.Allowed.{allowed}
use Rattle.sedna.specs.Message.{Url, Body}
use Rattle.parts_cut.specs.Cut.{cut_typed_item}
use Rattle.parts_cut.proofs.Cuts.{typed_first, typed_following}
use Rattle.parts_cut.proofs.Answers.{settles, not_allowed}
use Rattle.parts_cut.proofs.write_typed_item_part.Goals as goal

pub returns-in-0 : goal.returns-in-0
unfolding allowed
returns-in-0 c =
    let a = c.args in
    settles (allowed (Body.item a.class a.kind Url.absent a.text.now)) true (cut_typed_item a.class a.kind Url.absent a.text.now) a.k
    a.out.now _ _ (sym c.item_allowed.ensures ∙ c.if-not-item_allowed.false) refl
    (typed_first a.class a.kind Url.absent a.text.now a.k c.in-0.is c.first.ensures)
    c.write_item.ensures

pub returns-in_default : goal.returns-in_default
unfolding allowed
returns-in_default c =
    let a = c.args in
    settles (allowed (Body.item a.class a.kind Url.absent a.text.now)) true (cut_typed_item a.class a.kind Url.absent a.text.now) a.k
    a.out.now _ _ (sym c.item_allowed.ensures ∙ c.if-not-item_allowed.false) refl
    (typed_following a.class a.kind Url.absent a.text.now a.k (omega arith) c.rest.ensures)
    c.write_following.ensures

pub returns-then-not-item_allowed : goal.returns-then-not-item_allowed
unfolding allowed
returns-then-not-item_allowed c =
    let a = c.args in
    not_allowed (allowed (Body.item a.class a.kind Url.absent a.text.now)) true (cut_typed_item a.class a.kind Url.absent a.text.now) a.k
    a.out.now (sym c.item_allowed.ensures ∙ c.if-not-item_allowed.true)
