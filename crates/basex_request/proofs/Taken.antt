-- Which of four texts a kind takes, and their strings one behind the other.
use mathlib.Core.Path.{◌≡◌, refl, sym, ◌∙◌}
use mathlib.Core.List.{List, [], ◌∷◌, ◌++◌, flatten, append-nil, flat_map}
use mathlib.Core.Bool.{Bool, true, false}
use Prim.Native.Nat.{ℕ, zero, suc, ◌≤◌, ◌<◌}
use native.Mathlib.Omega.{arith}
use lib.Dec.{ltb}
use lib.ListN.{length, take, drop, length-append}
use lib.Seq.{take-nil}
use borrow.Author.Tests.{lt-ltb, le-ltb, ltb-false, eq-eqb, ne_eqb, eqb-true, eqb-false}
use Rattle.wire.specs.Bytes.{if}
use Rattle.basex.specs.Texts.{place_if, string_if, strings, unused, length_at}
use Rattle.basex_request.specs.Calls.{four}

-- texts beyond the first n are no longer than all of those
pub beyond : (ts : List (List ℕ)) (n k : ℕ) → n ≤ k → length_at ts k ≤ length (flatten (drop n ts))
unfolding flatten
beyond [] n zero h = omega arith
beyond [] n (suc k) h = omega arith
beyond (t ∷ ts) zero zero h = omega (arith, length-append t (flatten ts))
beyond (t ∷ ts) zero (suc k) h = let i = beyond ts zero k (omega arith) in omega (arith, length-append t (flatten ts))
beyond (t ∷ ts) (suc n) zero h = absurd (omega arith)
beyond (t ∷ ts) (suc n) (suc k) h = beyond ts n k (omega arith)

none-beyond : (ts : List (List ℕ)) (n : ℕ) → ((k : ℕ) → n ≤ k → length_at ts k ≡ 0) → length (flatten (drop n ts)) ≡ 0
unfolding flatten
none-beyond [] zero h = refl
none-beyond [] (suc n) h = refl
none-beyond (t ∷ ts) zero h = let i = none-beyond ts zero (λ k l. h (suc k) (omega arith)) in let z = h 0 (omega arith) in omega (arith, length-append t (flatten ts))
none-beyond (t ∷ ts) (suc n) h = none-beyond ts n (λ k l. h (suc k) (omega arith))

-- a text beyond the first n that is not empty
pub some-unused : (ts : List (List ℕ)) (n k : ℕ) → n ≤ k → (length_at ts k ≡ 0 → ⊥) → false ≡ unused n ts
some-unused ts n k h e = let b = beyond ts n k h in sym (ne_eqb _ _ (λ (z : length (flatten (drop n ts)) ≡ 0). e (omega arith)))

-- a text beyond the first n has no place, and stands only where it is empty
pub no-place : (k n : ℕ) (t : List ℕ) → place_if (ltb k n) t ≡ false → (n ≤ k) × (length t ≡ 0 → ⊥)
no-place k n t e = by (ltb k n) refl e
  where
    by : (f : Bool) → ltb k n ≡ f → place_if f t ≡ false → (n ≤ k) × (length t ≡ 0 → ⊥)
    by true p q = let z : ◌≡◌ {A = ℕ} 0 1 = cc in absurd (omega arith)
    by false p q = (ltb-false k n p, eqb-false (length t) 0 q)

placed : (k n : ℕ) (t : List ℕ) → place_if (ltb k n) t ≡ true → n < suc k → length t ≡ 0
placed k n t e h = eqb-true (length t) 0 (rw (le-ltb k n (omega arith)) at e)

module _ (a b c d : List ℕ) where
  pub none-unused : (n : ℕ) → (n < 1 → length a ≡ 0) → (n < 2 → length b ≡ 0) → (n < 3 → length c ≡ 0) → (n < 4 → length d ≡ 0) → true ≡ unused n (four a b c d)
  none-unused n p q r s = sym (eq-eqb _ _ (none-beyond (four a b c d) n by))
    where
      by : (k : ℕ) → n ≤ k → length_at (four a b c d) k ≡ 0
      by zero h = p (omega arith)
      by (suc zero) h = q (omega arith)
      by (suc (suc zero)) h = r (omega arith)
      by (suc (suc (suc zero))) h = s (omega arith)
      by (suc (suc (suc (suc k)))) h = refl

  -- whether each of them has a place, or is empty
  pub all-placed : (n : ℕ) {v w : Bool} → v ≡ if (place_if (ltb 0 n) a) (place_if (ltb 1 n) b) false → w ≡ if v (place_if (ltb 2 n) c) false
      → if w (place_if (ltb 3 n) d) false ≡ unused n (four a b c d)
  all-placed n p q = rw (q, p) (by (place_if (ltb 0 n) a) refl (place_if (ltb 1 n) b) refl (place_if (ltb 2 n) c) refl (place_if (ltb 3 n) d) refl)
    where
      none : (k : ℕ) (t : List ℕ) → length_at (four a b c d) k ≡ length t → place_if (ltb k n) t ≡ false → false ≡ unused n (four a b c d)
      none k t l e = let z = no-place k n t e in some-unused (four a b c d) n k z.0 (λ h. z.1 (sym l ∙ h))

      by : (e : Bool) → place_if (ltb 0 n) a ≡ e → (f : Bool) → place_if (ltb 1 n) b ≡ f → (g : Bool) → place_if (ltb 2 n) c ≡ g → (h : Bool) → place_if (ltb 3 n) d ≡ h
          → if (if (if e f false) g false) h false ≡ unused n (four a b c d)
      by false e f y g z h x = none 0 a refl e
      by true e false y g z h x = none 1 b refl y
      by true e true y false z h x = none 2 c refl z
      by true e true y true z false x = none 3 d refl x
      by true e true y true z true x = none-unused n (placed 0 n a e) (placed 1 n b y) (placed 2 n c z) (placed 3 n d x)

  -- the strings of those that are taken
  pub taken-strings : (n : ℕ) → strings (take n (four a b c d)) ≡ string_if (ltb 0 n) a ++ (string_if (ltb 1 n) b ++ (string_if (ltb 2 n) c ++ string_if (ltb 3 n) d))
  unfolding flat_map
  taken-strings zero = refl
  taken-strings (suc zero) = refl
  taken-strings (suc (suc zero)) = refl
  taken-strings (suc (suc (suc zero))) = refl
  taken-strings (suc (suc (suc (suc n)))) =
      rw (
        lt-ltb 0 (suc (suc (suc (suc n)))) (omega arith),
        lt-ltb 1 (suc (suc (suc (suc n)))) (omega arith),
        lt-ltb 2 (suc (suc (suc (suc n)))) (omega arith),
        lt-ltb 3
            (suc (suc (suc (suc n)))) (omega arith),
      )
      (rw (take-nil {A = List ℕ} n, append-nil) refl)
