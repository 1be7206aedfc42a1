-- Instants as they are read: the fields by their places, 15 over the whole text, then 16.
use Rattle.std.specs.Prelude.{ℕ, ◌+◌, ◌-◌, ◌*◌, ◌^◌, Option, Some, None, Result, Ok, Err}
use Rattle.wire.specs.declared.Refusal.{Refusal}
use mathlib.Core.{Bool.Bool, Bool.true, Bool.false, List.List}
use lib.{Dec.eqb, Dec.leb, Dec.ltb, IntN.ℤ, IntN.pos, IntN.◌-ℤ◌, ListN.length, ListN.get_or}
use Rattle.wire.specs.{Bytes.if, declared.Refusal.TheVariants.NotOfForm, declared.Refusal.TheVariants.OutOfRange}
use Rattle.sedna_instant.specs.{declared.fields.Clock.Clock, declared.fields.Fraction.Fraction, declared.fields.Year.Year}
use Rattle.sedna_instant.specs.{declared.Instant.Instant, Calendar.month_length, Calendar.days_before}
use Rattle.sedna_digits.specs.{declared.Run.Run, Digits.digits_at, Digits.two_digits_at}

-- a year as it stands there, and whether it has its form
pub record YearAt : Type 0 where
  pub minus : Bool
  pub formed : Bool
  pub number : ℕ
  pub end : ℕ

-- a year that has it, and what it was
abbrev pub formed_year : YearAt → Option Year
formed_year y = if y.formed (Some (record { minus = y.minus; number = y.number; end = y.end })) None

abbrev pub year_was : Year → YearAt
year_was y = record { minus = y.minus; formed = true; number = y.number; end = y.end }

-- a year whose digits start at `at`: four, or more where the first is not 0
abbrev pub year_by : Bool → Bool → ℕ → Run → YearAt
year_by minus zero at r = record { minus = minus; formed = if zero (eqb (r.end - at) 4) (leb 4 (r.end - at)); number = r.number; end = r.end }

abbrev pub year_from : List ℕ → Bool → ℕ → YearAt
year_from s minus at = year_by minus (eqb (get_or s at 0) 48) at (digits_at s at)

-- behind a minus sign, if there is one
unfoldable pub year_of : List ℕ → YearAt
year_of s = year_from s (eqb (get_or s 0 0) 45) (if (eqb (get_or s 0 0) 45) 1 0)

-- the bytes of -..-..T..:..:.. that are no digits
unfoldable pub marks_at : List ℕ → ℕ → Bool
marks_at s at =
    if (eqb (get_or s at 0) 45)
    (if (eqb (get_or s (at + 3) 0) 45)
    (if (eqb (get_or s (at + 6) 0) 84)
    (if (eqb (get_or s (at + 9) 0) 58) (eqb (get_or s (at + 12) 0) 58) false) false) false) false

abbrev pub clock_at : List ℕ → ℕ → Clock
clock_at s at = record {
  month = two_digits_at s (at + 1);
  day = two_digits_at s (at + 4);
  hour = two_digits_at s (at + 7);
  minute = two_digits_at s (at + 10);
  second = two_digits_at s (at + 13);
}

-- the numbers, where each has two digits
abbrev pub whole_clock : Clock → Option Clock
whole_clock c =
    if (ltb c.month 100) (if (ltb c.day 100) (if (ltb c.hour 100) (if (ltb c.minute 100) (if (ltb c.second 100) (Some c) None) None) None) None) None

-- all of it, where so many bytes are there, and those that are no digits stand among them
abbrev pub clock_there : List ℕ → ℕ → Option Clock
clock_there s at = if (ltb (length s) (at + 15)) None (if (marks_at s at) (whole_clock (clock_at s at)) None)

-- a fraction as it stands there, and whether it has its form
pub record FractionAt : Type 0 where
  pub formed : Bool
  pub count : ℕ
  pub number : ℕ
  pub end : ℕ

-- a fraction that has it, and what it was
abbrev pub formed_fraction : FractionAt → Option Fraction
formed_fraction f = if f.formed (Some (record { count = f.count; number = f.number; end = f.end })) None

abbrev pub fraction_was : Fraction → FractionAt
fraction_was f = record { formed = true; count = f.count; number = f.number; end = f.end }

abbrev pub fraction_by : ℕ → Run → FractionAt
fraction_by at r = record { formed = ltb 0 (r.end - at); count = r.end - at; number = r.number; end = r.end }

-- a point and digits, or nothing at all
unfoldable pub fraction_at : List ℕ → ℕ → FractionAt
fraction_at s at = if (eqb (get_or s at 0) 46) (fraction_by (at + 1) (digits_at s (at + 1))) (record { formed = true; count = 0; number = 0; end = at })

-- hours and minutes as minutes up to 14:00; else 841
abbrev pub minutes_of : ℕ → ℕ → ℕ
minutes_of hours minutes = if (ltb 59 minutes) 841 (if (ltb 14 hours) 841 (if (ltb 840 (hours * 60 + minutes)) 841 (hours * 60 + minutes)))

-- hh:mm at `at`, with which the text ends, in minutes; else 841
unfoldable pub offset_at : List ℕ → ℕ → ℕ
offset_at s at = if (eqb (at + 5) (length s)) (if (eqb (get_or s (at + 2) 0) 58) (minutes_of (two_digits_at s at) (two_digits_at s (at + 3))) 841) 841

abbrev pub shift_by : ℕ → ℕ → Result ℕ Refusal
shift_by b minutes =
    if (ltb 840 minutes) (Err NotOfForm)
    (if (eqb b 43) (Ok (86400 - minutes * 60)) (if (eqb b 45) (Ok (86400 + minutes * 60)) (Err NotOfForm)))

-- Z, or a sign and an offset, up to the text's end: what is added to local time, on top of a day
unfoldable pub zone_at : List ℕ → ℕ → Result ℕ Refusal
zone_at s at =
    if (leb (length s) at) (Err OutOfRange)
    (if (eqb (get_or s at 0) 90) (if (eqb (at + 1) (length s)) (Ok 86400) (Err NotOfForm)) (shift_by (get_or s at 0) (offset_at s (at + 1))))

-- up to 23:59:59, or 24:00:00 with a fraction of 0
abbrev pub time_right : Clock → ℕ → Bool
time_right c fraction =
    if (ltb 59 c.minute) false
    (if (ltb 59 c.second) false
    (if (ltb c.hour 24) true
    (if (ltb 24 c.hour) false (if (ltb 0 c.minute) false (if (ltb 0 c.second) false (eqb fraction 0))))))

abbrev pub is_formed : YearAt → Clock → FractionAt → Bool
is_formed y c f =
    if y.formed
    (if f.formed (if (ltb c.day 1) false (if (ltb (month_length y.number c.month) c.day) false (time_right c f.number))) false) false

abbrev pub seconds_of : ℕ → Clock → ℕ → ℤ
seconds_of year c shift =
    pos (days_before year c.month c.day * 86400 + c.hour * 3600 + c.minute * 60 + c.second + shift) -ℤ pos 62135683200

abbrev pub nanos_of : FractionAt → ℕ
nanos_of f = f.number * 10 ^ (9 - f.count)

abbrev pub timed_of : YearAt → Clock → FractionAt → ℕ → Result Instant Refusal
timed_of y c f shift =
    if y.minus (Err OutOfRange)
    (if (ltb y.number 1) (Err OutOfRange)
    (if (ltb 9999 y.number) (Err OutOfRange)
    (if (ltb 9 f.count) (Err OutOfRange)
    (Ok (record { seconds = seconds_of y.number c shift; nanos = nanos_of f })))))

abbrev pub zoned_of : YearAt → Clock → FractionAt → Result ℕ Refusal → Result Instant Refusal
zoned_of y c f (Ok shift) = timed_of y c f shift
zoned_of y c f (Err r) = Err r

abbrev pub instant_by : List ℕ → YearAt → Clock → FractionAt → Result Instant Refusal
instant_by s y c f = if (is_formed y c f) (zoned_of y c f (zone_at s f.end)) (Err NotOfForm)

abbrev pub instant_from : List ℕ → YearAt → Result Instant Refusal
instant_from s y =
    if (ltb (length s) (y.end + 15)) (Err NotOfForm)
    (if (marks_at s y.end) (instant_by s y (clock_at s y.end) (fraction_at s (y.end + 15))) (Err NotOfForm))

unfoldable pub instant_of : List ℕ → Result Instant Refusal
instant_of s = instant_from s (year_of s)
