-- Bounds that private functions ask for, or keep, so that no sum wraps.
use mathlib.Core.{Bool.true, Path.◌≡◌}
use Rattle.std.specs.Prelude.{Option, Some, None, Result, Ok, Err, ℕ, ◌^◌, ◌≤◌, ◌<◌}
use Rattle.sedna_instant.specs.{declared.fields.Clock.Clock, declared.fields.Fraction.Fraction, declared.fields.Year.Year}
use Rattle.sedna_instant.specs.DateTimes.{is_formed, year_was, fraction_was}
use Rattle.wire.specs.declared.Refusal.{Refusal}

-- a contract: the call answers this, within a bound
pub record GivesWithin {A : Type 0} (bound : A → Type 0) (answer r : A) : Type 0 where
  pub answers : r ≡ answer
  pub within : bound r

-- ---- the day count

pub record IsMonth (month : ℕ) : Type 0 where
  pub month_1 : 1 ≤ month
  pub month_12 : month ≤ 12

-- a year that is counted, and a day that some month has
pub record InCalendar (year month day : ℕ) : Type 0 where
  pub year_1 : 1 ≤ year
  pub year_9999 : year ≤ 9999
  pub a_month : IsMonth month
  pub day_1 : 1 ≤ day
  pub day_31 : day ≤ 31

-- ---- the parts of an instant

-- a fraction's number has no more digits than were counted
abbrev pub FractionFits : Fraction → Type 0
FractionFits f = f.count ≤ 9 → f.number < 10 ^ f.count

abbrev pub FoundFits : Option Fraction → Type 0
FoundFits (Some f) = FractionFits f
FoundFits None = Unit {0}

-- what a zone adds is no more than a day and fourteen hours
abbrev pub ShiftBounded : Result ℕ Refusal → Type 0
ShiftBounded (Ok shift) = shift ≤ 136800
ShiftBounded (Err r) = Unit {0}

-- a dateTime of its form, as it was read
pub record FieldsRead (y : Year) (c : Clock) (f : Fraction) (shift : ℕ) : Type 0 where
  pub formed : is_formed (year_was y) c (fraction_was f) ≡ true
  pub fraction : FractionFits f
  pub shift_136800 : shift ≤ 136800

-- what the seconds are counted of
pub record SecondsFit (year : ℕ) (c : Clock) (shift : ℕ) : Type 0 where
  pub date : InCalendar year c.month c.day
  pub hour_24 : c.hour ≤ 24
  pub minute_59 : c.minute ≤ 59
  pub second_59 : c.second ≤ 59
  pub shift_136800 : shift ≤ 136800

pub record NanosFit (f : Fraction) : Type 0 where
  pub nine : f.count ≤ 9
  pub fits : f.number < 10 ^ f.count
