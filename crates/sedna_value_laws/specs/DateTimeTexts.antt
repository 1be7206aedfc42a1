-- Document 02, request 1: XML Schema's dateTime, its fields one behind the other, and the instant that it means: days by counting them, then seconds, then
-- the zone. No reader is known here.
use mathlib.Core.{Bool.Bool, Bool.true, Bool.false, List.List, List.[], List.◌∷◌, List.◌++◌, Logic.◌⊎◌, Path.◌≡◌}
use Rattle.std.specs.Prelude.{ℕ, ◌+◌, ◌-◌, ◌*◌, ◌/◌, ◌%◌, ◌≤◌, ◌<◌}
use lib.{IntN.ℤ, IntN.pos, IntN.neg_ℤ, IntN.◌-ℤ◌, ListN.length, ListN.get_or, ListN.replicate}
use Rattle.wire.specs.Every.{Every}
use Rattle.sedna_digits.specs.Numbers.{number, AreDigits, text}
use Rattle.sedna_instant.specs.{declared.Instant.Instant, Calendar.month_length, Calendar.days_before}
use Rattle.sedna_value.specs.declared.Value.{Value}
use Rattle.sedna_value_laws.specs.Ascii.{ascii}

-- no zone, Z, or so many hours and minutes ahead of UTC or behind it
pub data Zone : Type 0 where
  missing utc : Zone
  ahead behind : ℕ → ℕ → Zone

pub record DateTime : Type 0 where
  -- whether a minus sign stands in front
  pub minus : Bool
  -- its digits
  pub year : List ℕ
  pub month : ℕ
  pub day : ℕ
  pub hour : ℕ
  pub minute : ℕ
  pub second : ℕ
  -- the digits behind the point; where there is none, no point either
  pub fraction : List ℕ
  pub zone : Zone

-- ---- as it is written

abbrev pub minus_text : Bool → List ℕ
minus_text true = ascii "-"
minus_text false = []

-- a number below 100
abbrev pub two_digits : ℕ → List ℕ
two_digits n = text (n / 10 ∷ n % 10 ∷ [])

abbrev pub fraction_text : List ℕ → List ℕ
fraction_text [] = []
fraction_text (d ∷ ds) = ascii "." ++ text (d ∷ ds)

abbrev pub zone_text : Zone → List ℕ
zone_text Zone.missing = []
zone_text Zone.utc = ascii "Z"
zone_text (Zone.ahead hours minutes) = ascii "+" ++ two_digits hours ++ ascii ":" ++ two_digits minutes
zone_text (Zone.behind hours minutes) = ascii "-" ++ two_digits hours ++ ascii ":" ++ two_digits minutes

-- -MM-DDThh:mm:ss
abbrev pub clock_text : DateTime → List ℕ
clock_text t =
    ascii "-" ++ two_digits t.month ++ ascii "-" ++ two_digits t.day ++
    ascii "T" ++ two_digits t.hour ++ ascii ":" ++ two_digits t.minute ++ ascii ":" ++ two_digits t.second

abbrev pub written : DateTime → List ℕ
written t = minus_text t.minus ++ text t.year ++ clock_text t ++ fraction_text t.fraction ++ zone_text t.zone

-- ---- what has its form

-- four digits, or more of which the first is not 0
abbrev pub FormedYear : List ℕ → Type 0
FormedYear ds = AreDigits ds × ((length ds ≡ 4) ⊎ ((4 < length ds) × (0 < get_or ds 0 0)))

-- a day that the month has: "a year counts as written, leap days too"
pub record FormedDate (t : DateTime) : Type 0 where
  pub month_1 : 1 ≤ t.month
  pub month_12 : t.month ≤ 12
  pub day_1 : 1 ≤ t.day
  pub day_last : t.day ≤ month_length (number t.year) t.month

-- up to 23:59:59, or 24:00:00 sharp
pub data FormedTime (t : DateTime) : Type 0 where
  day : t.hour ≤ 23 → t.minute ≤ 59 → t.second ≤ 59 → FormedTime t
  midnight : t.hour ≡ 24 → t.minute ≡ 0 → t.second ≡ 0 → Every (λ (d : ℕ). d ≡ 0) t.fraction → FormedTime t

-- "from -14:00 to +14:00"
abbrev pub FormedZone : Zone → Type 0
FormedZone Zone.missing = Unit {0}
FormedZone Zone.utc = Unit {0}
FormedZone (Zone.ahead hours minutes) = (minutes ≤ 59) × (hours * 60 + minutes ≤ 14 * 60)
FormedZone (Zone.behind hours minutes) = (minutes ≤ 59) × (hours * 60 + minutes ≤ 14 * 60)

pub record Formed (t : DateTime) : Type 0 where
  pub year : FormedYear t.year
  pub date : FormedDate t
  pub time : FormedTime t
  pub fraction : AreDigits t.fraction
  pub zone : FormedZone t.zone

-- ---- the instant that it means

-- seconds from 0001-01-01T00:00:00 to a local time; 24:00:00 is the next midnight
abbrev pub local : DateTime → ℕ
local t = days_before (number t.year) t.month t.day * 86400 + t.hour * 3600 + t.minute * 60 + t.second

-- seconds by which local time is ahead of UTC
abbrev pub offset : Zone → ℤ
offset Zone.missing = pos 0
offset Zone.utc = pos 0
offset (Zone.ahead hours minutes) = pos ((hours * 60 + minutes) * 60)
offset (Zone.behind hours minutes) = neg_ℤ (pos ((hours * 60 + minutes) * 60))

-- "signed seconds from 1970-01-01T00:00:00Z"
abbrev pub seconds : DateTime → ℤ
seconds t = pos (local t) -ℤ offset t.zone -ℤ pos (days_before 1970 1 1 * 86400)

-- "with 0 to 999,999,999 nanoseconds on top": nine digits
abbrev pub nanoseconds : DateTime → ℕ
nanoseconds t = number (t.fraction ++ replicate (9 - length t.fraction) 0)

pub record Means (t : DateTime) (v : Value) : Type 0 where
  pub instant : Instant
  pub is : v ≡ Value.At instant
  -- "years 0001 to 9999"
  pub positive : t.minus ≡ false
  pub year_1 : 1 ≤ number t.year
  pub year_9999 : number t.year ≤ 9999
  -- "a required zone"
  pub zoned : ¬ (t.zone ≡ Zone.missing)
  -- "up to nine fraction digits"
  pub nine : length t.fraction ≤ 9
  pub seconds_are : instant.seconds ≡ seconds t
  pub nanos_are : instant.nanos ≡ nanoseconds t

-- 16: "a value out of range (year 0000, negative or above 9999 included), a missing zone, more digits than named"
pub data Excluded (t : DateTime) : Type 0 where
  negative : t.minus ≡ true → Excluded t
  year_0000 : number t.year ≡ 0 → Excluded t
  above_9999 : 9999 < number t.year → Excluded t
  unzoned : t.zone ≡ Zone.missing → Excluded t
  more_digits : 9 < length t.fraction → Excluded t
