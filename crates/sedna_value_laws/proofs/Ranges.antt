-- Each type's range in 64 bits with a sign is the one that the table gives, limited.
use mathlib.Core.Bool.{Bool, true, false}
use mathlib.Core.Path.{◌≡◌, sym, subst, refl}
use mathlib.Core.Logic.{◌↔◌}
use mathlib.Core.Option.{Option, none, some}
use native.Mathlib.Omega.{arith}
use lib.Dec.{T, leb→le, le→leb}
use lib.IntN.{ℤ, pos, negsuc}
use lib.Signed.{le_z, ◌≤ℤ◌}
use borrow.Author.Tests.{leb-false}
use Rattle.wire.specs.Bytes.{if}
use Rattle.wire.specs.Every.{Every}
use Rattle.sedna_value.specs.Wholes.{least_of, greatest_of}
use Rattle.sedna_value_laws.specs.Types.{WholeType, whole_types}
use Rattle.sedna_value_laws.specs.WholeTexts.{AtLeast, AtMost, InRange}
use Rattle.sedna_value_laws.specs.Texts.{Kind, kind_of}
use Rattle.sedna_value_laws.proofs.ByKind.{in_table_lem}

-- ---- the order of the integers, where the library has no law

is : (t : Bool) → t ≡ true → T t
is t e = subst T (sym e) tt

trans : (a b c : ℤ) → T (le_z a b) → T (le_z b c) → T (le_z a c)
trans (pos a) (pos b) (pos c) h k = le→leb a c (omega (arith, leb→le a b h, leb→le b c k))
trans (pos a) (pos b) (negsuc c) h k = absurd k
trans (pos a) (negsuc b) c h k = absurd h
trans (negsuc a) (pos b) (pos c) h k = tt
trans (negsuc a) (pos b) (negsuc c) h k = absurd k
trans (negsuc a) (negsuc b) (pos c) h k = tt
trans (negsuc a) (negsuc b) (negsuc c) h k = le→leb c a (omega (arith, leb→le b a h, leb→le c b k))

pub ≤ℤ-trans : {a b c : ℤ} → a ≤ℤ b → b ≤ℤ c → a ≤ℤ c
≤ℤ-trans {a} {b} {c} h k = record { le = trans a b c h.le k.le }

total : (a b : ℤ) → le_z a b ≡ false → T (le_z b a)
total (pos a) (pos b) e = le→leb b a (omega (arith, leb-false a b e))
total (pos a) (negsuc b) e = tt
total (negsuc a) (pos b) e = absurd (subst T e tt)
total (negsuc a) (negsuc b) e = le→leb a b (omega (arith, leb-false b a e))

-- a test of the order, passed or failed
pub ≤ℤ-true : {a b : ℤ} → le_z a b ≡ true → a ≤ℤ b
≤ℤ-true {a} {b} e = record { le = is (le_z a b) e }

pub ≤ℤ-false : {a b : ℤ} → le_z a b ≡ false → b ≤ℤ a
≤ℤ-false {a} {b} e = record { le = total a b e }

-- ---- each type's range in 64 bits with a sign is the one that the table gives, limited: one test over the table, and one law

-- the least and the greatest number of 64 bits with a sign
abbrev min : ℤ
min = negsuc 9223372036854775807

abbrev max : ℤ
max = pos 9223372036854775807

-- the ends of a range, limited to these
abbrev lower : Option ℤ → ℤ
lower none = min
lower (some l) = if (le_z l min) min l

abbrev upper : Option ℤ → ℤ
upper none = max
upper (some g) = if (le_z max g) max g

abbrev Limited : WholeType → Type 0
Limited w = (least_of w.type ≡ lower w.least) × (greatest_of w.type ≡ upper w.greatest)

-- the test over the table
all_limited : Every Limited whole_types
unfolding whole_types
all_limited = search

low : (o : Option ℤ) (z : ℤ) → (lower o ≤ℤ z) ↔ (AtLeast o z × (min ≤ℤ z))
low none z = (λ h. (tt, h), λ h. h.1)
low (some l) z = by (le_z l min) refl
  where
    by : (t : Bool) → le_z l min ≡ t → (if t min l ≤ℤ z) ↔ ((l ≤ℤ z) × (min ≤ℤ z))
    by true e = (λ k. (≤ℤ-trans (≤ℤ-true e) k, k), λ h. h.1)
    by false e = (λ k. (k, ≤ℤ-trans (≤ℤ-false e) k), λ h. h.0)

high : (o : Option ℤ) (z : ℤ) → (z ≤ℤ upper o) ↔ (AtMost o z × (z ≤ℤ max))
high none z = (λ h. (tt, h), λ h. h.1)
high (some g) z = by (le_z max g) refl
  where
    by : (t : Bool) → le_z max g ≡ t → (z ≤ℤ if t max g) ↔ ((z ≤ℤ g) × (z ≤ℤ max))
    by true e = (λ k. (≤ℤ-trans k (≤ℤ-true e), k), λ h. h.1)
    by false e = (λ k. (k, ≤ℤ-trans k (≤ℤ-false e)), λ h. h.0)

-- the two ends that the reader has, and the range of the table
module _ (w : WholeType) (named : kind_of w.type ≡ some (Kind.whole w)) (z : ℤ) where
  bounds : Limited w
  bounds = (in_table_lem Limited all_limited w.type w named).1

  pub within : least_of w.type ≤ℤ z → z ≤ℤ greatest_of w.type → InRange w z
  within h k =
      let a = (low w.least z).0 (rw bounds.0 at h) in
      let b = (high w.greatest z).0 (rw bounds.1 at k) in
      record { least = a.0; greatest = b.0; from = a.1; to = b.1 }

  pub above_least : InRange w z → least_of w.type ≤ℤ z
  above_least r = rw bounds.0 ((low w.least z).1 (r.least, r.from))

  pub below_greatest : InRange w z → z ≤ℤ greatest_of w.type
  below_greatest r = rw bounds.1 ((high w.greatest z).1 (r.greatest, r.to))
