-- What the old program got wrong: "An expiry of 09:00:00+02:00 came as a dateTime, was kept as text, and was compared with 08:30:00Z as text."
use Rattle.std.specs.Prelude.{ℕ, ◌≤◌, pos, ◌+ℤ◌, Ok}
use mathlib.Core.{Bool.false, List.List, List.[], Path.◌≡◌}
use Rattle.sedna_digits.specs.Numbers.{number}
use Rattle.std.specs.declared.cmp.Ordering.TheVariants.{Less}
use Rattle.sedna_instant.specs.{declared.Instant.Instant, Orders.ordered}
use Rattle.sedna_value.specs.{declared.Value.TheVariants.At, Values.value_of}
use Rattle.sedna_value_laws.specs.{Types.date_time, DateTimeTexts.Zone, DateTimeTexts.DateTime, DateTimeTexts.written, DateTimeTexts.Formed}

-- a time of a day, on the minute
abbrev at : List ℕ → ℕ → ℕ → ℕ → ℕ → Zone → DateTime
at year month day hour minute zone =
    record { minus = false; year = year; month = month; day = day; hour = hour; minute = minute; second = 0; fraction = []; zone = zone }

-- 09:00:00+02:00
abbrev pub expiry : List ℕ → ℕ → ℕ → DateTime
expiry year month day = at year month day 9 0 (Zone.ahead 2 0)

-- 08:30:00Z
abbrev pub clock : List ℕ → ℕ → ℕ → DateTime
clock year month day = at year month day 8 30 Zone.utc

-- both are instants, and the expiry is the earlier one
pub record Expired (a b : DateTime) : Type 0 where
  pub expires : Instant
  pub now : Instant
  pub expiry_read : value_of 1 date_time (written a) ≡ Ok (At expires)
  pub now_read : value_of 1 date_time (written b) ≡ Ok (At now)
  pub earlier : ordered expires now ≡ Less
  -- "A channel was used ninety minutes past its end."
  pub ninety_minutes : now.seconds ≡ expires.seconds +ℤ pos 5400

-- on any day of the years 0001 to 9999
abbrev pub Incident : Type 0
Incident = (year : List ℕ) (month day : ℕ) → Formed (expiry year month day) → 1 ≤ number year → number year ≤ 9999
    → Expired (expiry year month day) (clock year month day)
