-- Document 02, request 1: the calendar, by counting. "A year counts as written, leap days too." No reader is known here.
use mathlib.Core.{Bool.Bool, Bool.true, Bool.false, List.List, List.[], List.◌∷◌}
use Rattle.std.specs.Prelude.{ℕ, zero, suc, ◌+◌, ◌-◌, ◌%◌}
use lib.{Dec.eqb, ListN.get_or}
use Rattle.wire.specs.Bytes.{if}

-- every fourth year, but of the hundreds only every fourth
abbrev pub leap : ℕ → Bool
leap year = if (eqb (year % 400) 0) true (if (eqb (year % 100) 0) false (eqb (year % 4) 0))

abbrev pub year_length : ℕ → ℕ
year_length year = if (leap year) 366 365

-- January to December
abbrev pub month_lengths : ℕ → List ℕ
month_lengths year = 31 ∷ if (leap year) 29 28 ∷ 31 ∷ 30 ∷ 31 ∷ 30 ∷ 31 ∷ 31 ∷ 30 ∷ 31 ∷ 30 ∷ 31 ∷ []

-- how many days a month has: January is 1, and what is no month has none
abbrev pub month_length : ℕ → ℕ → ℕ
month_length year month = get_or (0 ∷ month_lengths year) month 0

-- the days of the years 1 to y
unfoldable pub years_to : ℕ → ℕ
years_to zero = 0
years_to (suc y) = years_to y + year_length (suc y)

-- the days of the months 1 to m of a year
unfoldable pub months_to : ℕ → ℕ → ℕ
months_to year zero = 0
months_to year (suc m) = months_to year m + month_length year (suc m)

-- how many days lie between 0001-01-01 and a date: those of the years before, of the months before, and of the month before it
unfoldable pub days_before : ℕ → ℕ → ℕ → ℕ
unfolding years_to months_to
days_before year month day = years_to (year - 1) + months_to year (month - 1) + (day - 1)
