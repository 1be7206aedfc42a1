use mathlib.Core.Path.{◌≡◌, refl, sym, ap, ◌∙◌}
use mathlib.Core.Bool.{Bool}
use Prim.Native.Nat.{ℕ}
use lib.Dec.{eqb}
use lib.ListN.{length}
use Rattle.basex.specs.Kinds.{has_uri, item_strings}
use Rattle.basex_string.proofs.Handed.{handed, was-some, was-none}
use Rattle.basex_response.specs.Writing.{item_written}
use Rattle.basex_response.proofs.Writes.{uri-told, refused_writes, put_writes, item-bytes, item-answer, item-no-place}
use Rattle.basex_response.proofs.write.write_item.Goals as goal
use Rattle.basex_response.proofs.write.write_item.Goals.{then-not-is_listed-via-then-not-is_listed, then-not-is_listed-via-else-not-is_listed+then-not-id_allowed, then-not-is_listed-via-else-not-is_listed+else-not-id_allowed+then-not-has_place}

-- whether the item has a URI
uris : (id : ℕ) {full f : Bool} {n : ℕ} → f ≡ full → n ≡ item_strings f id → eqb n 2 ≡ has_uri full id
uris id {full} {f} e g = ap (λ (m : ℕ). eqb m 2) (g ∙ ap (λ (f : Bool). item_strings f id) e) ∙ uri-told full id

pub returns-in_err-reply : goal.returns-in_err-reply
unfolding item_written
returns-in_err-reply c =
    let n = was-none c.find.result c.in_err-reply.ensures.value in
    rw (handed _ c.from_residual.ensures.1, n.1) (rw (sym c.find.ensures ∙ n.0) (record { answers = refl; leaves = refl }))

pub returns-then-not-is_listed : goal.returns-then-not-is_listed
unfolding item_written
returns-then-not-is_listed c =
    let a = c.args in
    let f = sym c.find.ensures ∙ was-some _ _ c.in_ok-reply.ensures.value in
    elim c.then-not-is_listed.branch [
      | then-not-is_listed-via-then-not-is_listed w ↦
          rw f (rw (sym c.is_listed.ensures ∙ w.if-not-is_listed.true) (record { answers = refl; leaves = refl }))
      | then-not-is_listed-via-else-not-is_listed+then-not-id_allowed w ↦
          rw f (rw (sym c.is_listed.ensures ∙ w.if-not-is_listed.false, sym w.id_allowed.ensures ∙ w.if-not-id_allowed.true) (record { answers = refl; leaves = refl }))
      | then-not-is_listed-via-else-not-is_listed+else-not-id_allowed+then-not-has_place w ↦
          refused_writes _ _ a.out.now a.at _
          (item-no-place (length a.out.now) a.at a.kind a.id _ _ a.uri.now a.text.now f _ (uris a.id c.is_full-full.ensures c.item_strings-uris.ensures)
          (sym c.is_listed.ensures ∙ w.if-not-is_listed.false) (sym w.id_allowed.ensures ∙ w.if-not-id_allowed.false) (sym w.has_place.ensures ∙ w.if-not-has_place.true))
    ]

pub returns : goal.returns
unfolding item_written
returns c =
    let a = c.args in
    let u = uris a.id c.is_full-full.ensures c.item_strings-uris.ensures in
    let k = sym c.find.ensures ∙ was-some _ _ c.in_ok-reply.ensures.value in
    put_writes a.out.now a.at _ _ (item-bytes (length a.out.now) a.at a.kind a.id _ _ a.uri.now a.text.now k _ u) _
    (item-answer (length a.out.now) a.at a.kind a.id _ _ a.uri.now a.text.now k _ u
    (sym c.is_listed.ensures ∙ c.if-not-is_listed.false) (sym c.id_allowed.ensures ∙ c.if-not-id_allowed.false) (sym c.has_place.ensures ∙ c.if-not-has_place.false))
    c.put_item.ensures
