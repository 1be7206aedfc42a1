-- The days of years and months: what counting them gives.
use mathlib.Core.Bool.{Bool, true, false}
use mathlib.Core.Path.{◌≡◌, refl}
use mathlib.Core.List.{◌∷◌}
use Prim.Native.Nat.{ℕ, zero, suc, ◌+◌, ◌-◌, ◌*◌, ◌/◌, ◌%◌, ◌≤◌, ◌<◌}
use native.Mathlib.Omega.{arith}
use lib.Dec.{eqb, leb, ltb}
use lib.ListN.{get_or-eq_default}
use borrow.Author.Tests.{eqb-true, eqb-false, eq-eqb, ltb-true, ltb-false, leb-true}
use Rattle.wire.specs.Bytes.{if}
use Rattle.wire.proofs.Below.{up_to, below}
use Rattle.sedna_instant.specs.Calendar.{year_length, years_to, leap, month_lengths, month_length, months_to}
use Rattle.sedna_instant.specs.inner.Bounds.{IsMonth}

-- ---- the days of years: what counting them year by year gives

-- the days of the years 1 to y, the leap days by division
abbrev pub by_division : ℕ → ℕ
by_division y = y * 365 + y / 4 - y / 100 + y / 400

-- of the next year, by what it leaves divided by 4, 100 and 400: how many of each kind there are up to it
fourths : (y : ℕ) (t : Bool) → eqb (suc y % 4) 0 ≡ t → suc y / 4 ≡ y / 4 + if t 1 0
fourths y true e = omega (arith, eqb-true (suc y % 4) 0 e)
fourths y false e = omega (arith, eqb-false (suc y % 4) 0 e)

hundreds : (y : ℕ) (t : Bool) → eqb (suc y % 100) 0 ≡ t → suc y / 100 ≡ y / 100 + if t 1 0
hundreds y true e = omega (arith, eqb-true (suc y % 100) 0 e)
hundreds y false e = omega (arith, eqb-false (suc y % 100) 0 e)

fourth_hundreds : (y : ℕ) (t : Bool) → eqb (suc y % 400) 0 ≡ t → suc y / 400 ≡ y / 400 + if t 1 0
fourth_hundreds y true e = omega (arith, eqb-true (suc y % 400) 0 e)
fourth_hundreds y false e = omega (arith, eqb-false (suc y % 400) 0 e)

-- the leap rule over those three numbers: those of 400 are among those of 100, and those among those of 4
rule :
    (a b d : Bool) (m x y z : ℕ) {x' y' z' : ℕ}
    → (a ≡ true → b ≡ true)
    → (b ≡ true → d ≡ true)
    → y ≤ x
    → x' ≡ x + if d 1 0
    → y' ≡ y + if b 1 0
    → z' ≡ z + if a 1 0
    → suc m * 365 + x' - y' + z' ≡ m * 365 + x - y + z + if (if a true (if b false d)) 366 365
rule true true true m x y z i j l e f g = omega arith
rule true true false m x y z i j l e f g = let o : ◌≡◌ {A = ℕ} 0 1 = cc (j refl) in omega arith
rule true false d m x y z i j l e f g = let o : ◌≡◌ {A = ℕ} 0 1 = cc (i refl) in omega arith
rule false true true m x y z i j l e f g = omega arith
rule false true false m x y z i j l e f g = let o : ◌≡◌ {A = ℕ} 0 1 = cc (j refl) in omega arith
rule false false true m x y z i j l e f g = omega arith
rule false false false m x y z i j l e f g = omega arith

next : (y : ℕ) → by_division (suc y) ≡ by_division y + year_length (suc y)
next y =
    rule (eqb (suc y % 400) 0) (eqb (suc y % 100) 0) (eqb (suc y % 4) 0) y (y / 4) (y / 100) (y / 400)
    (λ e. let h = eqb-true (suc y % 400) 0 e in eq-eqb (suc y % 100) 0 (omega arith))
    (λ e. let h = eqb-true (suc y % 100) 0 e in eq-eqb (suc y % 4) 0 (omega arith))
    (omega arith)
    (fourths y _ refl)
    (hundreds y _ refl)
    (fourth_hundreds y _ refl)

pub years_by_division : (y : ℕ) → years_to y ≡ by_division y
unfolding years_to
years_by_division zero = refl
years_by_division (suc y) = omega (arith, years_by_division y, next y)

-- ---- the lengths of months, and the days of the months of a year, in which only February depends on the year

-- what is no month has no days
pub no-month : (year m : ℕ) → 12 < m → month_length year m ≡ 0
no-month year m h = get_or-eq_default (0 ∷ month_lengths year) 0 h

-- only a month has days, and at most 31
pub has_days : (year m : ℕ) → 1 ≤ month_length year m → IsMonth m
has_days year zero h = absurd (omega arith)
has_days year (suc m) h = record { month_1 = omega arith; month_12 = by (ltb 12 (suc m)) refl }
  where
    by : (t : Bool) → ltb 12 (suc m) ≡ t → suc m ≤ 12
    by true e = absurd (omega (arith, no-month year (suc m) (ltb-true 12 (suc m) e)))
    by false e = ltb-false 12 (suc m) e

pub days_31 : (year m : ℕ) → m ≤ 12 → month_length year m ≤ 31
days_31 year m h = leb-true _ _ (below (λ (k : ℕ). leb (month_length year k) 31) 13 m (by (leap year) refl) (omega arith))
  where
    by : (t : Bool) → leap year ≡ t → up_to (λ (k : ℕ). leb (month_length year k) 31) 13 ≡ true
    by true e = rw e
    by false e = rw e

-- up to February's first day every year is alike, and from March on a leap year has had a day more
pub no_leap_day : (year m : ℕ) → m ≤ 1 → months_to year m ≡ months_to 1 m
unfolding months_to
no_leap_day year zero h = refl
no_leap_day year (suc zero) h = refl
no_leap_day year (suc (suc m)) h = absurd (omega arith)

either : (t : Bool) → 31 + if t 29 28 ≡ 59 + if t 1 0
either true = refl
either false = refl

pub leap_day : (year m : ℕ) → 2 ≤ m → months_to year m ≡ months_to 1 m + if (leap year) 1 0
unfolding months_to
leap_day year zero h = absurd (omega arith)
leap_day year (suc zero) h = absurd (omega arith)
leap_day year (suc (suc zero)) h = either (leap year)
leap_day year (suc (suc (suc m))) h = omega (arith, leap_day year (suc (suc m)) (omega arith))

ahead_334 : (m : ℕ) → m ≤ 11 → months_to 1 m ≤ 334
unfolding months_to
ahead_334 m h = leb-true _ _ (below (λ (k : ℕ). leb (months_to 1 k) 334) 12 m refl (omega arith))

pub ahead_335 : (year m : ℕ) → m ≤ 11 → months_to year m ≤ 335
ahead_335 year m h = by (ltb m 2) refl (leap year) refl
  where
    by : (t : Bool) → ltb m 2 ≡ t → (l : Bool) → leap year ≡ l → months_to year m ≤ 335
    by true e l f = omega (arith, ltb-true m 2 e, ahead_334 m h, no_leap_day year m (omega (arith, ltb-true m 2 e)))
    by false e true f = omega (arith, ahead_334 m h, rw f at (leap_day year m (ltb-false m 2 e)))
    by false e false f = omega (arith, ahead_334 m h, rw f at (leap_day year m (ltb-false m 2 e)))
