-- Writing refuses exactly as `Unwritten` says: with that number, and at that moment.
use Rattle.std.specs.Prelude.{Option, Some, None, Result, Ok, Err}
use mathlib.Core.Bool.{Bool, true, false}
use mathlib.Core.Logic.{◌↔◌}
use mathlib.Core.Path.{◌≡◌, refl, sym, ap, subst, ◌∙◌}
use Prim.Native.Nat.{ℕ, ◌+◌}
use native.Mathlib.Omega.{arith}
use lib.Dec.{ltb}
use lib.ListN.{length}
use borrow.Author.Tests.{lt-ltb, le-ltb, ltb-true, ltb-false, eq-eqb}
use Rattle.wire.specs.Bytes.{if}
use Rattle.wire.specs.declared.Refusal.{Refusal}
use Rattle.wire.specs.declared.Refusal.TheVariants.{ValueNotAllowed}
use Rattle.sedna.specs.declared.Shape.{Shape}
use Rattle.sedna.specs.declared.Side.{Side}
use Rattle.sedna.specs.Allowed.{allowed}
use Rattle.sedna.specs.Encode.{body_bytes}
use Rattle.sedna.specs.Kinds.{shape_number, same_shape}
use Rattle.sedna.specs.Message.{Message, shape_of}
use Rattle.sedna.specs.Table.{InTable, find_of, fit_of}
use Rattle.sedna_write.specs.Writing.{judgement_by, judgement, written}
use Rattle.sedna_laws.specs.Unwritten.{Unwritten}
use Rattle.wire.proofs.Branches.{apart, either}
use Rattle.wire.proofs.Call.{room-short, refused-short}
use Rattle.sedna_laws.proofs.Due.{lacking, lacks}
use Rattle.sedna_laws.proofs.Table.{find_listed, listed_find}
use Rattle.sedna_laws.proofs.Written.{same_shape_lem, encode-length}

-- a body of the shape that the table has, or of another one
fitted : {P : Type 0} (t ok : Bool) (n room : ℕ) {w : Result ℕ Refusal} → judgement_by (if t (Ok tt) (Err ValueNotAllowed)) ok n room ≡ w
    → (t ≡ true → judgement_by (Ok tt) ok n room ≡ w → P) → (t ≡ false → judgement_by (Err ValueNotAllowed) ok n room ≡ w → P) → P
fitted true ok n room e same other = same refl e
fitted false ok n room e same other = other refl e

shape_itself : (a : Shape) → same_shape a a ≡ true
shape_itself a = eq-eqb (shape_number a) _ refl

module _ (room : ℕ) (m : Message) where
  k : ℕ
  k = length (body_bytes m.body)

  refused_back : (r : Refusal) → written room m ≡ Err r → Unwritten room m r
  unfolding judgement k
  refused_back r e = by (find_of m.instruction) refl e
    where
      so : {q : Refusal} → ◌≡◌ {A = Result ℕ Refusal} (Err q) (Err r) → Unwritten room m q → Unwritten room m r
      so {q} e = let z : q ≡ r = cc in subst (Unwritten room m) z

      by : (f : Option (Side × Shape)) → find_of m.instruction ≡ f → judgement_by (fit_of f (shape_of m.body)) (allowed m.body) k room ≡ Err r → Unwritten room m r
      by None found e = so e (Unwritten.unknown (lacking m.instruction found))
      by (Some (sender, own)) found e =
          let listed : InTable (m.instruction, sender, own) = listed_find m.instruction sender own found in
          fitted (same_shape own (shape_of m.body)) (allowed m.body) k room e
          (λ same e₁.
          let there : InTable (m.instruction, sender, shape_of m.body) = rw (same_shape_lem own (shape_of m.body) same) at listed in
          either (allowed m.body) _ _ e₁
          (λ ok e₂. either (ltb 10240 k) _ _ e₂
          (λ long e₃. so e₃ (Unwritten.too_long sender there ok (ltb-true 10240 k long)))
          (λ short e₃.
          let less = refused-short room 0 (8 + k) r e₃ in
          subst (Unwritten room m) (sym less.0) (Unwritten.no_room sender there ok (ltb-false 10240 k short) (omega (arith, less.1, encode-length m)))))
          (λ bad e₂. so e₂ (Unwritten.value (m.instruction, sender, own) listed refl λ both. apart (let z : true ≡ false = sym both.1 ∙ bad in cc))))
          (λ other e₁. so e₁ (Unwritten.value (m.instruction, sender, own) listed refl λ both. apart (let z : true ≡ false = sym (shape_itself own) ∙ ap (same_shape own) both.0 ∙ other in cc)))

  not_so : (own : Shape) → ¬ ((own ≡ shape_of m.body) × (allowed m.body ≡ true)) → (f : Option (Side × Shape)) (sender : Side) → f ≡ Some (sender, own)
      → judgement_by (fit_of f (shape_of m.body)) (allowed m.body) k room ≡ Err ValueNotAllowed
  not_so own unfit f whose found = by (same_shape own (shape_of m.body)) refl (allowed m.body) refl
    where
      by : (t : Bool) → same_shape own (shape_of m.body) ≡ t → (v : Bool) → allowed m.body ≡ v → judgement_by (fit_of f (shape_of m.body)) (allowed m.body) k room ≡ Err ValueNotAllowed
      by false other v q = rw (found, other)
      by true same false bad = rw (found, same, bad)
      by true same true ok = absurd (unfit (same_shape_lem own (shape_of m.body) same, ok))

  refused_forth : {r : Refusal} → Unwritten room m r → written room m ≡ Err r
  unfolding judgement k
  refused_forth (Unwritten.unknown none) = rw (lacks m.instruction none)
  refused_forth (Unwritten.value e listed same unfit) = not_so e.2 unfit (find_of m.instruction) e.1 (ap find_of (sym same) ∙ find_listed e listed)
  refused_forth (Unwritten.too_long side listed ok long) =
      rw (find_listed (m.instruction, side, shape_of m.body) listed, shape_itself (shape_of m.body), ok, lt-ltb 10240 k long)
  refused_forth (Unwritten.no_room side listed ok short less) =
      rw (find_listed (m.instruction, side, shape_of m.body) listed, shape_itself (shape_of m.body), ok, le-ltb 10240 k short)
      (room-short room 0 (8 + k) (omega (arith, less, encode-length m)))

-- demand 1, writing: a refusal is given exactly when it is due
pub unwritten_exact : (room : ℕ) (m : Message) (r : Refusal) → (written room m ≡ Err r) ↔ Unwritten room m r
unwritten_exact room m r = (refused_back room m r, refused_forth room m)
