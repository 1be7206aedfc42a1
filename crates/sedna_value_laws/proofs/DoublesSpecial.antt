-- INF, -INF and NaN, and no other text without a digit.
use Rattle.std.specs.Prelude.{Err}
use mathlib.Core.Bool.{Bool, true, false}
use mathlib.Core.List.{List, [], ◌∷◌}
use mathlib.Core.Logic.{◌⊎◌, inl, inr}
use mathlib.Core.Path.{◌≡◌, refl, ap}
use Prim.Native.Nat.{ℕ}
use native.Mathlib.Omega.{arith}
use lib.Dec.{eqb}
use lib.ListN.{length, get_or}
use borrow.Author.Tests.{ne_eqb, eqb-true}
use Rattle.wire.specs.Bytes.{if}
use Rattle.wire.specs.declared.Refusal.TheVariants.{NotOfForm}
use Rattle.sedna_value.specs.Doubles.{nan_at, inf_at, special_of}
use Rattle.sedna_value_laws.specs.DoubleTexts.{DoubleText, written, Formed}
use Rattle.wire.proofs.Branches.{apart, both, one_of}

abbrev test : List ℕ → Bool
test s = if (eqb (length s) 3) (if (inf_at s 0) true (nan_at s)) (if (eqb (length s) 4) (if (eqb (get_or s 0 0) 45) (inf_at s 1) false) false)

three_letters : (a b c x y z : ℕ) → if (eqb a x) (if (eqb b y) (eqb c z) false) false ≡ true → a ∷ b ∷ c ∷ [] ≡ x ∷ y ∷ z ∷ []
three_letters a b c x y z e =
    let p = (both (eqb a x) (if (eqb b y) (eqb c z) false)).0 e in
    let q = (both (eqb b y) (eqb c z)).0 p.1 in
    rw (eqb-true a x p.0, eqb-true b y q.0, eqb-true c z q.1)

named : (s : List ℕ) → test s ≡ true → (t : DoubleText) × Formed t × (s ≡ written t)
named [] e = apart (cc)
named (a ∷ []) e = apart (cc)
named (a ∷ b ∷ []) e = apart (cc)
named (a ∷ b ∷ c ∷ []) e = by (one_of (inf_at (a ∷ b ∷ c ∷ []) 0) (nan_at (a ∷ b ∷ c ∷ [])) e)
  where
    by : (inf_at (a ∷ b ∷ c ∷ []) 0 ≡ true) ⊎ (nan_at (a ∷ b ∷ c ∷ []) ≡ true) → (t : DoubleText) × Formed t × (a ∷ b ∷ c ∷ [] ≡ written t)
    by (inl f) = (DoubleText.inf, tt, three_letters a b c 73 78 70 f)
    by (inr f) = (DoubleText.nan, tt, three_letters a b c 78 97 78 f)
named (a ∷ b ∷ c ∷ d ∷ []) e =
    let p = (both (eqb a 45) (inf_at (a ∷ b ∷ c ∷ d ∷ []) 1)).0 e in
    (DoubleText.-inf, tt, rw (eqb-true a 45 p.0) (ap (λ (l : List ℕ). 45 ∷ l) (three_letters b c d 73 78 70 p.1)))
named (a ∷ b ∷ c ∷ d ∷ f ∷ s) e =
    let n : ℕ = length (a ∷ b ∷ c ∷ d ∷ f ∷ s) in
    let no : false ≡ true = rw (ne_eqb n 3 (omega arith), ne_eqb n 4 (omega arith)) at e in
    apart (cc)

pub special_back : (s : List ℕ) → ((t : DoubleText) × Formed t × (s ≡ written t)) ⊎ (special_of s ≡ Err NotOfForm)
unfolding special_of
special_back s = by (test s) refl
  where
    by : (t : Bool) → test s ≡ t → ((t : DoubleText) × Formed t × (s ≡ written t)) ⊎ (special_of s ≡ Err NotOfForm)
    by true e = inl (named s e)
    by false e = inr (rw e)
