-- A body is refused exactly as its fields tell: with 5, 6, 7 or 8.
use mathlib.Core.List.{List, [], ◌∷◌}
use mathlib.Core.Logic.{◌↔◌, inl, inr}
use mathlib.Core.Path.{◌≡◌, refl, sym, ap, subst, ◌∙◌}
use Prim.Native.Nat.{ℕ}
use Rattle.wire.specs.Bytes.{IsBytes}
use Rattle.wire.specs.Fields.{Got, go_on, ◌>>◌, give}
use Rattle.wire.specs.declared.Refusal.{Refusal}
use Rattle.wire.specs.declared.Refusal.TheVariants.{FieldCut, StringFormat, BytesLeftOver, ValueNotAllowed}
use Rattle.sedna.specs.declared.Shape.{Shape}
use Rattle.sedna.specs.Message.{Body}
use Rattle.sedna_read.specs.Fields.{nothing_left}
use Rattle.sedna_read.specs.Reading.{fields_of, body_field}
use Rattle.sedna_laws.specs.Due.{InBody}
use Rattle.sedna_laws.specs.Pieces.{WrongField}
use Rattle.wire.proofs.Branches.{apart}
use Rattle.sedna_laws.proofs.Cut.{Among, cut_exact}
use Rattle.sedna_laws.proofs.LeftOver.{left-over_exact}
use Rattle.sedna_laws.proofs.Refusals.{GotIn, body_refuses}
use Rattle.sedna_laws.proofs.WrongFields.{fields-wrong}
use Rattle.sedna_laws.proofs.WrongStops.{wrong-refused}

module _ (shape : Shape) (b : List ℕ) (h : IsBytes b) where
  wrong_back : (r : Refusal) → ¬ (r ≡ FieldCut) → ¬ (r ≡ BytesLeftOver) → body_field shape b ≡ Got.refused r → WrongField shape b r
  unfolding body_field
  wrong_back r not_cut not_over e = by (fields_of shape b) refl e
    where
      by : (g : Got Body) → fields_of shape b ≡ g → go_on g (λ a. ◌>>◌ nothing_left (give a)) ≡ Got.refused r → WrongField shape b r
      by (Got.refused u) q e = let z : u ≡ r = cc in fields-wrong r not_cut shape b h (q ∙ ap Got.refused z)
      by (Got.got a []) q e = apart (cc)
      by (Got.got a (x ∷ l)) q e = let z : BytesLeftOver ≡ r = cc in absurd (not_over (sym z))

  due-in_body : (r : Refusal) → body_field shape b ≡ Got.refused r → InBody shape b r
  due-in_body r e = by (subst (GotIn Among) e (body_refuses Among (inl refl) (inr (inr (inl refl))) (inr (inr (inr refl))) (inr (inl refl)) shape b))
    where
      six : r ≡ StringFormat → InBody shape b r
      six z = InBody.wrong r (wrong_back r (λ y. apart (let x : StringFormat ≡ FieldCut = sym z ∙ y in cc)) (λ y. apart (let x : StringFormat ≡ BytesLeftOver = sym z ∙ y in cc)) e)

      eight : r ≡ ValueNotAllowed → InBody shape b r
      eight z = InBody.wrong r (wrong_back r (λ y. apart (let x : ValueNotAllowed ≡ FieldCut = sym z ∙ y in cc)) (λ y. apart (let x : ValueNotAllowed ≡ BytesLeftOver = sym z ∙ y in cc)) e)

      by : Among r → InBody shape b r
      by (inl z) = subst (InBody shape b) (sym z) (InBody.cut ((cut_exact shape b h).0 (e ∙ ap Got.refused z)))
      by (inr (inl z)) = subst (InBody shape b) (sym z) (InBody.left_over ((left-over_exact shape b h).0 (e ∙ ap Got.refused z)))
      by (inr (inr (inl z))) = six z
      by (inr (inr (inr z))) = eight z

in_body-due : (shape : Shape) (b : List ℕ) (h : IsBytes b) {r : Refusal} → InBody shape b r → body_field shape b ≡ Got.refused r
unfolding body_field
in_body-due shape b h (InBody.cut c) = (cut_exact shape b h).1 c
in_body-due shape b h (InBody.wrong r w) = rw (wrong-refused shape b r h w)
in_body-due shape b h (InBody.left_over o) = (left-over_exact shape b h).1 o

-- demand 1, reading: a body is refused exactly when that is due
pub in_body_exact : (shape : Shape) (b : List ℕ) → IsBytes b → (r : Refusal) → (body_field shape b ≡ Got.refused r) ↔ InBody shape b r
in_body_exact shape b h r = (due-in_body shape b h r, in_body-due shape b h)
