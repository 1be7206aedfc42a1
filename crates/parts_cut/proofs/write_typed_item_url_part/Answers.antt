use mathlib.Core.Path.{sym, ap, ◌∙◌}
use native.Mathlib.Omega.{arith}
use lib.Dec.{leb}
use lib.ListN.{length, take, drop}
use Prim.Native.Nat.{ℕ, ◌-◌}
use Rattle.wire.specs.declared.Refusal.TheVariants.{NoEncoding}
use Rattle.sedna.specs.Allowed.{allowed}
use Rattle.sedna.specs.Message.{Url, Body}
use Rattle.parts_cut.specs.Cut.{cut_typed_item}
use Rattle.parts_cut.proofs.Cuts.{typed_first, typed_following}
use Rattle.std.proofs.lemmas.Result.{err_from_is_err_and}
use Rattle.parts_cut.proofs.Answers.{settles, not_allowed, no_encoding, tested, tested_not}
use Rattle.parts_cut.proofs.write_typed_item_url_part.Goals as goal

pub returns-in_err-room : goal.returns-in_err-room
unfolding allowed
returns-in_err-room c =
    let a = c.args in
    let url = Url.present a.url.now in
    let p = err_from_is_err_and c.from_residual.result c.from_residual.ensures.1 in
    let e = tested_not (leb (length a.url.now) 10227) _ NoEncoding (sym c.room_beside.ensures ∙ c.in_err-room.was) in
    rw (p.1, p.2, e.1)
    (no_encoding (allowed (Body.item a.class a.kind url a.text.now)) (leb (length a.url.now) 10227)
    (cut_typed_item a.class a.kind url a.text.now) a.k a.out.now
    (sym c.item_allowed.ensures ∙ c.if-not-item_allowed.false) e.0)

pub returns-in-0 : goal.returns-in-0
unfolding allowed
returns-in-0 c =
    let a = c.args in
    let url = Url.present a.url.now in
    let e = tested (leb (length a.url.now) 10227) (10227 - length a.url.now) NoEncoding (sym c.room_beside.ensures ∙ c.in_ok-room.was) in
    settles (allowed (Body.item a.class a.kind url a.text.now)) (leb (length a.url.now) 10227)
    (cut_typed_item a.class a.kind url a.text.now) a.k a.out.now _ _
    (sym c.item_allowed.ensures ∙ c.if-not-item_allowed.false) e.0
    (typed_first a.class a.kind url a.text.now a.k c.in-0.is (c.first.ensures ∙ ap (λ (n : ℕ). take n a.text.now) e.1))
    c.write_item_url.ensures

pub returns-in_default : goal.returns-in_default
unfolding allowed
returns-in_default c =
    let a = c.args in
    let url = Url.present a.url.now in
    let e = tested (leb (length a.url.now) 10227) (10227 - length a.url.now) NoEncoding (sym c.room_beside.ensures ∙ c.in_ok-room.was) in
    settles (allowed (Body.item a.class a.kind url a.text.now)) (leb (length a.url.now) 10227)
    (cut_typed_item a.class a.kind url a.text.now) a.k a.out.now _ _
    (sym c.item_allowed.ensures ∙ c.if-not-item_allowed.false) e.0
    (typed_following a.class a.kind url a.text.now a.k (omega arith) (c.rest.ensures ∙ ap (λ (n : ℕ). drop n a.text.now) e.1))
    c.write_following.ensures

pub returns-then-not-item_allowed : goal.returns-then-not-item_allowed
unfolding allowed
returns-then-not-item_allowed c =
    let a = c.args in
    let url = Url.present a.url.now in
    not_allowed (allowed (Body.item a.class a.kind url a.text.now)) (leb (length a.url.now) 10227)
    (cut_typed_item a.class a.kind url a.text.now) a.k a.out.now
    (sym c.item_allowed.ensures ∙ c.if-not-item_allowed.true)
