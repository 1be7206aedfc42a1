-- A boolean's text is read as what it means.
use Rattle.std.specs.Prelude.{Err}
use mathlib.Core.Bool.{Bool, true, false}
use mathlib.Core.List.{List, [], ◌∷◌}
use mathlib.Core.Logic.{◌⊎◌, inl, inr}
use mathlib.Core.Path.{◌≡◌, refl, sym, ◌∙◌}
use Prim.Native.Nat.{ℕ, ◌<◌}
use native.Mathlib.Omega.{arith}
use lib.Dec.{eqb}
use lib.ListN.{length}
use borrow.Author.Tests.{ne_eqb, eqb-true}
use Rattle.wire.specs.Bytes.{if}
use Rattle.wire.proofs.Branches.{both}
use Rattle.wire.specs.declared.Refusal.TheVariants.{NotOfForm}
use Rattle.sedna_value.specs.declared.Value.TheVariants.{Boolean}
use Rattle.sedna_value.specs.Booleans.{true_at, false_at, of_bool, boolean_of}
use Rattle.sedna_value_laws.specs.BooleanTexts.{BooleanText, written, meant}
use Rattle.sedna_value_laws.specs.Texts.{Kind}
use Rattle.sedna_value_laws.proofs.Reader.{Answer, Reader}

-- a text of its form, or none
abbrev Sound : List ℕ → Type 0
Sound s = ((t : BooleanText) × Unit {0} × (s ≡ written t)) ⊎ (boolean_of s ≡ Err NotOfForm)

-- the two words
true_back : (a b c d : ℕ) → true_at (a ∷ b ∷ c ∷ d ∷ []) ≡ true → a ∷ b ∷ c ∷ d ∷ [] ≡ written BooleanText.true-word
true_back a b c d h =
    let p = (both (eqb a 116) _).0 h in
    let q = (both (eqb b 114) _).0 p.1 in
    let r = (both (eqb c 117) _).0 q.1 in
    rw (eqb-true a 116 p.0, eqb-true b 114 q.0, eqb-true c 117 r.0, eqb-true d 101 r.1)

false_back : (a b c d e : ℕ) → false_at (a ∷ b ∷ c ∷ d ∷ e ∷ []) ≡ true → a ∷ b ∷ c ∷ d ∷ e ∷ [] ≡ written BooleanText.false-word
false_back a b c d e h =
    let p = (both (eqb a 102) _).0 h in
    let q = (both (eqb b 97) _).0 p.1 in
    let r = (both (eqb c 108) _).0 q.1 in
    let u = (both (eqb d 115) _).0 r.1 in
    rw (eqb-true a 102 p.0, eqb-true b 97 q.0, eqb-true c 108 r.0, eqb-true d 115 u.0, eqb-true e 101 u.1)

-- a text that is as long as the word w, and w where the test holds
word : (s : List ℕ) (w : BooleanText) (t : Bool) → (t ≡ true → s ≡ written w)
    → ((x : BooleanText) × Unit {0} × (s ≡ written x)) ⊎ (if t (of_bool (meant w)) (Err NotOfForm) ≡ Err NotOfForm)
word s w true back = inl (w, tt, back refl)
word s w false back = inr refl

-- no text is longer than false
long : (s : List ℕ) → 5 < length s → boolean_of s ≡ Err NotOfForm
unfolding boolean_of
long s h =
    let a : length s ≡ 1 → ⊥ = λ e. omega arith in
    let b : length s ≡ 4 → ⊥ = λ e. omega arith in
    let c : length s ≡ 5 → ⊥ = λ e. omega arith in
    simp (ne_eqb _ _ a, ne_eqb _ _ b, ne_eqb _ _ c)

sound : (s : List ℕ) → Sound s
unfolding boolean_of
sound [] = inr refl
sound (a ∷ []) = by (eqb a 49) refl
  where
    by : (t : Bool) → eqb a 49 ≡ t → ((x : BooleanText) × Unit {0} × (a ∷ [] ≡ written x)) ⊎ (if t (of_bool true) (if (eqb a 48) (of_bool false) (Err NotOfForm)) ≡ Err NotOfForm)
    by true e = inl (BooleanText.one, tt, rw (eqb-true a 49 e))
    by false e = word (a ∷ []) BooleanText.zero (eqb a 48) (λ f. rw (eqb-true a 48 f))
sound (a ∷ b ∷ []) = inr refl
sound (a ∷ b ∷ c ∷ []) = inr refl
sound (a ∷ b ∷ c ∷ d ∷ []) = word (a ∷ b ∷ c ∷ d ∷ []) BooleanText.true-word (true_at (a ∷ b ∷ c ∷ d ∷ [])) (true_back a b c d)
sound (a ∷ b ∷ c ∷ d ∷ e ∷ []) = word (a ∷ b ∷ c ∷ d ∷ e ∷ []) BooleanText.false-word (false_at (a ∷ b ∷ c ∷ d ∷ e ∷ [])) (false_back a b c d e)
sound (a ∷ b ∷ c ∷ d ∷ e ∷ f ∷ s) = inr (long (a ∷ b ∷ c ∷ d ∷ e ∷ f ∷ s) (omega arith))

complete : (t : BooleanText) → Unit {0} → Answer Kind.boolean t (boolean_of (written t))
unfolding boolean_of
complete BooleanText.true-word f = Answer.is (Boolean true) refl
complete BooleanText.false-word f = Answer.is (Boolean false) refl
complete BooleanText.one f = Answer.is (Boolean true) refl
complete BooleanText.zero f = Answer.is (Boolean false) refl

pub boolean_reader : Reader Kind.boolean boolean_of
boolean_reader = record {
  sound = sound;
  complete = complete;
  one_value = λ t v w m n. m ∙ sym n;
  apart = λ t v m b. b;
}
