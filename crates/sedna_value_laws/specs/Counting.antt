-- The calendar counts day by day, over the ends of months and years. The last three lines are what any almanac says.
use mathlib.Core.{List.[], List.◌∷◌, List.map, Path.◌≡◌}
use Rattle.std.specs.Prelude.{ℕ, ◌+◌, ◌≤◌}
use Rattle.sedna_instant.specs.Calendar.{month_length, days_before}

pub record Counting : Type 0 where
  pub first : days_before 1 1 1 ≡ 0
  pub next_day : (year month day : ℕ) → 1 ≤ day → days_before year month (day + 1) ≡ days_before year month day + 1
  pub next_month : (year month : ℕ) → 1 ≤ month → month ≤ 11 → days_before year (month + 1) 1 ≡ days_before year month (month_length year month) + 1
  pub next_year : (year : ℕ) → 1 ≤ year → days_before (year + 1) 1 1 ≡ days_before year 12 31 + 1
  -- the days of an ordinary year ahead of each month
  pub months : map (λ (month : ℕ). days_before 1 month 1) (1 ∷ 2 ∷ 3 ∷ 4 ∷ 5 ∷ 6 ∷ 7 ∷ 8 ∷ 9 ∷ 10 ∷ 11 ∷ 12 ∷ [])
      ≡ 0 ∷ 31 ∷ 59 ∷ 90 ∷ 120 ∷ 151 ∷ 181 ∷ 212 ∷ 243 ∷ 273 ∷ 304 ∷ 334 ∷ []
  pub in_1970 : days_before 1970 1 1 ≡ 719162
  pub in_9999 : days_before 9999 12 31 ≡ 3652058
