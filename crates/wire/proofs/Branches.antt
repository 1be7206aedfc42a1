-- Which branch a test took, from what came of it.
use mathlib.Core.Path.{◌≡◌, refl}
use mathlib.Core.Bool.{Bool, true, false}
use mathlib.Core.Logic.{◌↔◌, ◌⊎◌, inl, inr}
use Prim.Native.Nat.{ℕ}
use native.Mathlib.Omega.{arith}
use Rattle.wire.specs.Bytes.{if}

-- anything follows where `cc` finds two constructors equal
pub apart : {P : Type 0} → ◌≡◌ {A = ℕ} 0 1 → P
apart z = absurd (omega arith)

-- what came of a test came of one of its branches
pub either : {A P : Type 0} (t : Bool) (a b : A) {c : A} → if t a b ≡ c → (t ≡ true → a ≡ c → P) → (t ≡ false → b ≡ c → P) → P
either true a b e first second = first refl e
either false a b e first second = second refl e

-- a test made only where another holds: it holds exactly where both do
pub both : (s t : Bool) → (if s t false ≡ true) ↔ ((s ≡ true) × (t ≡ true))
both true t = (λ p. (refl, p), λ p. p.1)
both false t = (λ p. apart (cc), λ p. p.0)

-- a test made only where another does not hold
pub neither : (s t : Bool) → if s false t ≡ true → (s ≡ false) × (t ≡ true)
neither true t e = apart (cc)
neither false t e = (refl, e)

-- one of two tests holds
pub one_of : (s t : Bool) → if s true t ≡ true → (s ≡ true) ⊎ (t ≡ true)
one_of true t e = inl refl
one_of false t e = inr e
