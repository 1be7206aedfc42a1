use mathlib.Core.Bool.{false}
use mathlib.Core.Path.{◌≡◌, refl, sym, ◌∙◌}
use lib.Dec.{ltb}
use Rattle.wire.specs.Bytes.{if}
use Rattle.basex.specs.Texts.{place_if}
use Rattle.basex_request.proofs.Taken.{all-placed}
use Rattle.basex_request.proofs.coding.takes.Goals as goal
use Rattle.basex_request.proofs.coding.takes.Goals.{then-has_place, else-has_place, then-has_place-2, else-has_place-2}

pub returns-then-has_place-3 : goal.returns-then-has_place-3
returns-then-has_place-3 c =
    let a = c.args in
    let v : c.if-has_place.value ≡ if (place_if (ltb 0 a.n) a.first.now) (place_if (ltb 1 a.n) a.second.now) false = elim c.if-has_place.branch [
      | then-has_place w ↦ w.value-is ∙ w.has_place-then-has_place.ensures ∙ rw (sym c.has_place.ensures ∙ w.if-has_place.true) refl
      | else-has_place w ↦ w.value-is ∙ w.if-has_place.false ∙ rw (sym c.has_place.ensures ∙ w.if-has_place.false) refl
    ] in
    let w : c.if-has_place-2.value ≡ if c.if-has_place.value (place_if (ltb 2 a.n) a.third.now) false = elim c.if-has_place-2.branch [
      | then-has_place-2 w ↦ w.value-is ∙ w.has_place-then-has_place-2.ensures ∙ rw w.if-has_place-2.true refl
      | else-has_place-2 w ↦ w.value-is ∙ rw w.if-has_place-2.false refl
    ] in
    c.has_place-then-has_place-3.ensures ∙ rw c.if-has_place-3.true at (all-placed a.first.now a.second.now a.third.now a.fourth.now a.n v w)

pub returns-else-has_place-3 : goal.returns-else-has_place-3
returns-else-has_place-3 c =
    let a = c.args in
    let v : c.if-has_place.value ≡ if (place_if (ltb 0 a.n) a.first.now) (place_if (ltb 1 a.n) a.second.now) false = elim c.if-has_place.branch [
      | then-has_place w ↦ w.value-is ∙ w.has_place-then-has_place.ensures ∙ rw (sym c.has_place.ensures ∙ w.if-has_place.true) refl
      | else-has_place w ↦ w.value-is ∙ w.if-has_place.false ∙ rw (sym c.has_place.ensures ∙ w.if-has_place.false) refl
    ] in
    let w : c.if-has_place-2.value ≡ if c.if-has_place.value (place_if (ltb 2 a.n) a.third.now) false = elim c.if-has_place-2.branch [
      | then-has_place-2 w ↦ w.value-is ∙ w.has_place-then-has_place-2.ensures ∙ rw w.if-has_place-2.true refl
      | else-has_place-2 w ↦ w.value-is ∙ rw w.if-has_place-2.false refl
    ] in
    c.if-has_place-3.false ∙ rw c.if-has_place-3.false at (all-placed a.first.now a.second.now a.third.now a.fourth.now a.n v w)
