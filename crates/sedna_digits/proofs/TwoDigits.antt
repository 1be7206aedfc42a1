-- A digit, and two of them.
use mathlib.Core.Path.{◌≡◌, refl, sym, ap, ◌∙◌}
use mathlib.Core.List.{List, [], ◌∷◌, ◌++◌}
use mathlib.Core.Bool.{Bool, true, false}
use Prim.Native.Nat.{ℕ, zero, suc, ◌+◌, ◌-◌, ◌*◌, ◌/◌, ◌%◌, ◌≤◌, ◌<◌}
use native.Mathlib.Omega.{arith}
use lib.Dec.{leb}
use lib.ListN.{drop, get_or}
use lib.Seq.{get_or-drop}
use borrow.Author.Tests.{leb-true, le-leb}
use Rattle.wire.specs.Bytes.{if}
use Rattle.sedna_digits.specs.Numbers.{text}
use Rattle.sedna_digits.specs.Digits.{is_digit, two_digits_at}

-- a digit's byte
pub digit-byte : (b : ℕ) → is_digit b ≡ true → (48 ≤ b) × (b ≤ 57)
digit-byte b e = by (leb 48 b) refl e
  where
    by : (t : Bool) → leb 48 b ≡ t → if t (leb b 57) false ≡ true → (48 ≤ b) × (b ≤ 57)
    by true p q = (leb-true _ _ p, leb-true _ _ q)
    by false p q = let z : ◌≡◌ {A = ℕ} 0 1 = cc in absurd (omega arith)

-- the byte of a digit
pub digit-text : (d : ℕ) → d ≤ 9 → is_digit (48 + d) ≡ true
digit-text d h =
    let a : 48 ≤ 48 + d = omega arith in
    let b : 48 + d ≤ 57 = omega arith in
    simp (le-leb _ _ a, le-leb _ _ b)

module _ (s : List ℕ) (at : ℕ) where
  pub two_digits : is_digit (get_or s at 0) ≡ true → is_digit (get_or s (at + 1) 0) ≡ true → two_digits_at s at ≡ (get_or s at 0 - 48) * 10 + (get_or s (at + 1) 0 - 48)
  unfolding two_digits_at
  two_digits p q = rw (p, q)

  pub two-first : is_digit (get_or s at 0) ≡ false → two_digits_at s at ≡ 100
  unfolding two_digits_at
  two-first p = rw p

  pub two-second : is_digit (get_or s (at + 1) 0) ≡ false → two_digits_at s at ≡ 100
  unfolding two_digits_at
  two-second p = rw p (by (is_digit (get_or s at 0)))
    where
      by : (t : Bool) → if {A = ℕ} t 100 100 ≡ 100
      by true = refl
      by false = refl

pub two_at-drop : (s : List ℕ) (p q : ℕ) → two_digits_at s (p + q) ≡ two_digits_at (drop p s) q
unfolding two_digits_at
two_at-drop s p q =
    let e : p + q + 1 ≡ p + (q + 1) = omega arith in
    rw e (simp get_or-drop)

-- a byte that is not 0 is there, and in front of the rest
pub byte-front : (s : List ℕ) (p b : ℕ) → get_or s p 0 ≡ suc b → drop p s ≡ suc b ∷ drop (suc p) s
byte-front [] p b e = absurd (omega arith)
byte-front (x ∷ s) zero b e = ap (λ (y : ℕ). y ∷ s) e
byte-front (x ∷ s) (suc p) b e = byte-front s p b e

-- where two digits stand, they are in front of the rest
pub two-front : (s : List ℕ) (p : ℕ) → two_digits_at s p < 100 → drop p s ≡ text (two_digits_at s p / 10 ∷ two_digits_at s p % 10 ∷ []) ++ drop (p + 2) s
two-front s p h = by (is_digit (get_or s p 0)) (is_digit (get_or s (p + 1) 0)) refl refl
  where
    digit-front : (q : ℕ) → is_digit (get_or s q 0) ≡ true → drop q s ≡ get_or s q 0 ∷ drop (suc q) s
    digit-front q e =
        let k = digit-byte (get_or s q 0) e in
        let f : get_or s q 0 ≡ suc (get_or s q 0 - 1) = omega arith in
        byte-front s q (get_or s q 0 - 1) f ∙ ap (λ (x : ℕ). x ∷ drop (suc q) s) (sym f)

    by : (t u : Bool) → is_digit (get_or s p 0) ≡ t → is_digit (get_or s (p + 1) 0) ≡ u → drop p s ≡ text (two_digits_at s p / 10 ∷ two_digits_at s p % 10 ∷ []) ++ drop (p + 2) s
    by true true e f =
        let a = digit-byte (get_or s p 0) e in
        let b = digit-byte (get_or s (p + 1) 0) f in
        let v = two_digits s p e f in
        let x : get_or s p 0 ≡ 48 + two_digits_at s p / 10 = omega arith in
        let y : get_or s (p + 1) 0 ≡ 48 + two_digits_at s p % 10 = omega arith in
        let i : suc p ≡ p + 1 = omega arith in
        let j : suc (p + 1) ≡ p + 2 = omega arith in
        digit-front p e ∙ ap (λ (n : ℕ). n ∷ drop (suc p) s) x
        ∙ ap (λ (l : List ℕ). (48 + two_digits_at s p / 10) ∷ l)
        (ap (λ (n : ℕ). drop n s) i ∙ digit-front (p + 1) f ∙ ap (λ (n : ℕ). n ∷ drop (suc (p + 1)) s) y ∙ ap (λ (n : ℕ). (48 + two_digits_at s p % 10) ∷ drop n s) j)
    by true false e f = absurd (omega (arith, two-second s p f))
    by false u e f = absurd (omega (arith, two-first s p e))

pub two-text : (n : ℕ) (rest : List ℕ) → n < 100 → two_digits_at (text (n / 10 ∷ n % 10 ∷ []) ++ rest) 0 ≡ n
two-text n rest h =
    let e = two_digits (text (n / 10 ∷ n % 10 ∷ []) ++ rest) 0 (digit-text (n / 10) (omega arith)) (digit-text (n % 10) (omega arith)) in
    omega arith
