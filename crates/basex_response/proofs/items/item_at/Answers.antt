use mathlib.Core.Path.{◌≡◌, sym, ◌∙◌}
use lib.ListN.{get_or}
use Rattle.basex_string.proofs.Handed.{handed}
use Rattle.basex.specs.Kinds.{id_allowed}
use Rattle.basex_response.proofs.Places.{past, ended, not_allowed, texts-refused, with_uri, without_uri}
use Rattle.basex_response.proofs.items.item_at.Goals as goal

pub returns-then-bytes-at : goal.returns-then-bytes-at
returns-then-bytes-at c =
    let a = c.args in past a.full a.bytes.now a.at c.if-bytes-at.true

pub returns-then-id-eq0 : goal.returns-then-id-eq0
returns-then-id-eq0 c =
    let a = c.args in ended a.full a.bytes.now a.at c.if-bytes-at.false c.if-id-eq0.true

pub returns-then-not-id_allowed : goal.returns-then-not-id_allowed
returns-then-not-id_allowed c =
    let a = c.args in
    not_allowed a.full a.bytes.now a.at c.if-bytes-at.false c.if-id-eq0.false (sym c.id_allowed.ensures ∙ c.if-not-id_allowed.true)

pub returns-in_err-texts : goal.returns-in_err-texts
returns-in_err-texts c =
    let a = c.args in
    let g : id_allowed (get_or a.bytes.now a.at 0) ≡ _ = sym c.id_allowed.ensures
    ∙ c.if-not-id_allowed.false in
    handed _ c.from_residual.ensures.1 ∙ texts-refused a.full a.bytes.now a.at c.if-bytes-at.false
    c.if-id-eq0.false g _ c.item_strings-n.ensures _
    (sym c.two_at.ensures ∙ c.in_err-texts.was)

pub returns-then-n-eq2 : goal.returns-then-n-eq2
returns-then-n-eq2 c =
    let a = c.args in
    let g : id_allowed (get_or a.bytes.now a.at 0) ≡ _ = sym c.id_allowed.ensures
    ∙ c.if-not-id_allowed.false in
    with_uri a.full a.bytes.now a.at c.if-bytes-at.false
    c.if-id-eq0.false g _ c.item_strings-n.ensures _
    (sym c.two_at.ensures ∙ c.in_ok-texts.was) c.if-n-eq2.true

pub returns-else-n-eq2 : goal.returns-else-n-eq2
returns-else-n-eq2 c =
    let a = c.args in
    let g : id_allowed (get_or a.bytes.now a.at 0) ≡ _ = sym c.id_allowed.ensures
    ∙ c.if-not-id_allowed.false in
    without_uri a.full a.bytes.now a.at c.if-bytes-at.false
    c.if-id-eq0.false g _ c.item_strings-n.ensures _
    (sym c.two_at.ensures ∙ c.in_ok-texts.was) c.if-n-eq2.false
