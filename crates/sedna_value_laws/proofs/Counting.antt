-- The calendar counts day by day.
use mathlib.Core.Bool.{Bool, true, false}
use mathlib.Core.List.{[], ◌∷◌}
use mathlib.Core.Path.{◌≡◌, refl}
use Prim.Native.Nat.{ℕ, zero, suc, ◌+◌, ◌-◌, ◌≤◌, ◌<◌}
use native.Mathlib.Omega.{arith}
use borrow.Author.Tests.{leb-true}
use lib.Dec.{leb}
use lib.ListN.{get_or}
use Rattle.wire.specs.Bytes.{if}
use Rattle.sedna_instant.specs.Calendar.{leap, year_length, month_length, years_to, months_to, days_before}
use Rattle.wire.proofs.Below.{below}
use Rattle.sedna_value_laws.specs.Counting.{Counting}

next_day : (year month day : ℕ) → 1 ≤ day → days_before year month (day + 1) ≡ days_before year month day + 1
unfolding days_before
next_day year month day h = omega arith

-- every month has days
month_days : (year m : ℕ) → m < 12 → 1 ≤ month_length year (suc m)
month_days year m h = by (leap year)
  where
    by : (t : Bool) → 1 ≤ get_or (31 ∷ if t 29 28 ∷ 31 ∷ 30 ∷ 31 ∷ 30 ∷ 31 ∷ 31 ∷ 30 ∷ 31 ∷ 30 ∷ 31 ∷ []) m 0
    by true = leb-true 1 _ (below (λ (k : ℕ). leb 1 (get_or (31 ∷ 29 ∷ 31 ∷ 30 ∷ 31 ∷ 30 ∷ 31 ∷ 31 ∷ 30 ∷ 31 ∷ 30 ∷ 31 ∷ []) k 0)) 12 m refl h)
    by false = leb-true 1 _ (below (λ (k : ℕ). leb 1 (get_or (31 ∷ 28 ∷ 31 ∷ 30 ∷ 31 ∷ 30 ∷ 31 ∷ 31 ∷ 30 ∷ 31 ∷ 30 ∷ 31 ∷ []) k 0)) 12 m refl h)

over-month : (years months days : ℕ) → 1 ≤ days → years + (months + days) + 0 ≡ years + months + (days - 1) + 1
over-month years months days h = omega arith

next_month : (year month : ℕ) → 1 ≤ month → month ≤ 11 → days_before year (month + 1) 1 ≡ days_before year month (month_length year month) + 1
unfolding days_before months_to
next_month year zero l h = absurd (omega arith)
next_month year (suc m) l h =
    let e : suc m + 1 - 1 ≡ suc m = omega arith in
    let f : suc m - 1 ≡ m = omega arith in
    rw (e, f) (over-month (years_to (year - 1)) (months_to year m) (month_length year (suc m)) (month_days year m (omega arith)))

year-months : (year : ℕ) → months_to year 11 + 31 ≡ year_length year
unfolding months_to
year-months year = by (leap year)
  where
    by : (t : Bool) → 31 + if t 29 28 + 31 + 30 + 31 + 30 + 31 + 31 + 30 + 31 + 30 + 31 ≡ if t 366 365
    by true = refl
    by false = refl

over-year : (years months year : ℕ) → months + 31 ≡ year → years + year + 0 + 0 ≡ years + months + 30 + 1
over-year years months year e = omega arith

next_year : (year : ℕ) → 1 ≤ year → days_before (year + 1) 1 1 ≡ days_before year 12 31 + 1
unfolding days_before years_to months_to
next_year zero h = absurd (omega arith)
next_year (suc y) h =
    let e : suc y + 1 - 1 ≡ suc y = omega arith in
    let f : suc y - 1 ≡ y = omega arith in
    rw (e, f) (over-year (years_to y) (months_to (suc y) 11) (year_length (suc y)) (year-months (suc y)))

pub counting : Counting
unfolding days_before years_to months_to
counting = record { first = refl; next_day = next_day; next_month = next_month; next_year = next_year; months = refl; in_1970 = refl; in_9999 = refl }
