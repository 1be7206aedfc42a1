-- What is kept of a number: itself up to 2^63, above that that it is greater, and its remainder by 400.
use mathlib.Core.Path.{◌≡◌, refl, sym, ◌∙◌}
use mathlib.Core.Bool.{Bool, true, false}
use Prim.Native.Nat.{ℕ, ◌+◌, ◌*◌, ◌%◌, ◌≤◌, ◌<◌}
use native.Mathlib.Omega.{arith}
use lib.Dec.{leb}
use borrow.Author.Tests.{le-leb, lt-leb, leb-true, leb-false}
use Rattle.sedna_digits.specs.Digits.{kept}
use Rattle.sedna_digits.specs.inner.Growing.{grown}

-- up to 2^63, and above
pub kept_by : {P : Type 0} (n : ℕ) → (n ≤ 9223372036854775808 → kept n ≡ n → P) → (9223372036854775808 < n → kept n ≡ 9223372036854776000 + n % 400 → P) → P
unfolding kept
kept_by {P} n small great = by (leb n 9223372036854775808) refl
  where
    by : (t : Bool) → leb n 9223372036854775808 ≡ t → P
    by true e = small (leb-true _ _ e) (rw e)
    by false e = great (leb-false _ _ e) (rw e)

pub kept_exact : (n : ℕ) → n ≤ 9223372036854775808 → kept n ≡ n
kept_exact n h = kept_by n (λ s e. e) (λ g e. absurd (omega arith))

pub kept_above : (n : ℕ) → 9223372036854775808 < n → 9223372036854775808 < kept n
kept_above n h = kept_by n (λ s e. omega arith) (λ g e. omega arith)

pub kept_400 : (n : ℕ) → kept n % 400 ≡ n % 400
kept_400 n = kept_by n (λ s e. omega arith) (λ g e. omega arith)

pub kept-zero : (n : ℕ) → kept n ≡ 0 → n ≡ 0
kept-zero n z = kept_by n (λ s e. omega arith) (λ g e. omega arith)

pub grown_small : (n d : ℕ) → n * 10 + d ≤ 9223372036854775808 → grown n d ≡ n * 10 + d
unfolding grown
grown_small n d h = simp (le-leb _ _ h)

pub grown_great : (n d : ℕ) → 9223372036854775808 < n * 10 + d → grown n d ≡ 9223372036854776000 + (n % 400 * 10 + d) % 400
unfolding grown
grown_great n d h = simp (lt-leb _ _ h)

-- one more digit behind what was kept is what is kept of one more digit
pub grown-kept : (n d : ℕ) → d ≤ 9 → grown (kept n) d ≡ kept (n * 10 + d)
grown-kept n d h =
    kept_by (n * 10 + d)
    (λ s e. rw (kept_exact n (omega arith)) (grown_small n d s ∙ sym e))
    (λ g e. great (kept n) (kept_by n (λ s f. omega arith) (λ b f. omega arith)) (kept_400 n) e)
  where
    great : (k : ℕ) → 9223372036854775808 < k * 10 + d → k % 400 ≡ n % 400 → kept (n * 10 + d) ≡ 9223372036854776000 + (n * 10 + d) % 400
        → grown k d ≡ kept (n * 10 + d)
    great k f e g = omega (arith, grown_great k d f)
