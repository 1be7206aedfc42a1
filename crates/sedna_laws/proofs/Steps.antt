-- A field is exact: it reads the bytes of each value as that value, and whatever it reads is the value's bytes.
use mathlib.Core.Path.{◌≡◌, refl, subst₂}
use mathlib.Core.List.{List, ◌++◌}
use mathlib.Core.Bool.{Bool, true, false}
use Prim.Native.Nat.{ℕ}
use Rattle.wire.specs.declared.Refusal.{Refusal}
use Rattle.wire.specs.Bytes.{IsBytes}
use Rattle.wire.specs.Fields.{Got, Field, go_on, required}
use Rattle.wire.proofs.Branches.{apart}
use Rattle.sedna_laws.proofs.Bytes.{bytes-behind}

-- the bytes of a value, and whatever stands behind them, are read as the value
abbrev pub Forth : {A : Type 0} → Field A → (A → List ℕ) → Type 0
Forth {A} field bytes = (a : A) (rest : List ℕ) → IsBytes (bytes a ++ rest) → field (bytes a ++ rest) ≡ Got.got a rest

-- what is read as a value is the value's bytes, and what is left stands behind them
abbrev pub Back : {A : Type 0} → Field A → (A → List ℕ) → Type 0
Back {A} field bytes = (s : List ℕ) (a : A) (rest : List ℕ) → IsBytes s → field s ≡ Got.got a rest → s ≡ bytes a ++ rest

module _ {A : Type 0} (field : Field A) (bytes : A → List ℕ) where
  -- where a reading goes on after a field: P follows if it follows from the field's value and what is left
  pub past : {B P : Type 0} → Back field bytes → (s : List ℕ) (next : A → Field B) {b : B} {rest : List ℕ} → IsBytes s → go_on (field s) next ≡ Got.got b rest
      → ((a : A) (left : List ℕ) → s ≡ bytes a ++ left → IsBytes left → next a left ≡ Got.got b rest → P) → P
  past {B} {P} back s next {b} {rest} h e so = by (field s) refl e
    where
      by : (g : Got A) → field s ≡ g → go_on g next ≡ Got.got b rest → P
      by (Got.refused r) q e = apart (cc)
      by (Got.got a left) q e = let split : s ≡ bytes a ++ left = back s a left h q in so a left split (bytes-behind (bytes a) left (rw split at h)) e

-- where a reading goes on after a test, the test held
pub passed : {B P : Type 0} (t : Bool) (r : Refusal) (s : List ℕ) (next : Field B) {b : B} {rest : List ℕ} → go_on (required t r s) (λ _. next) ≡ Got.got b rest
    → (t ≡ true → next s ≡ Got.got b rest → P) → P
passed true r s next e so = so refl e
passed false r s next e so = apart (cc)

-- what holds of a value that is given, and of what is left, holds of what was got
pub given : {A : Type 0} (P : A → List ℕ → Type 0) {a a' : A} {s s' : List ℕ} → Got.got a s ≡ Got.got a' s' → P a s → P a' s'
given P {a} {a'} {s} {s'} p =
    let e : a ≡ a' = cc in
    let e' : s ≡ s' = cc in
    subst₂ P e e'
