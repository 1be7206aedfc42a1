-- What has the form of a date and time has seconds, far below 2 ^ 63.
use mathlib.Core.Bool.{Bool, true, false, cond}
use mathlib.Core.Path.{◌≡◌, refl}
use Prim.Native.Nat.{ℕ, ◌≤◌, suc, ◌+◌, ◌-◌, ◌*◌, ◌^◌, ◌<◌}
use native.Mathlib.Omega.{arith}
use lib.Dec.{ltb}
use lib.IntN.{pos, negsuc, sub_ℕ}
use lib.Signed.{mag}
use mir.Syntax.{w64}
use mir.Val.{SFits}
use borrow.Author.Tests.{ltb-true, ltb-false}
use Rattle.wire.specs.Bytes.{if}
use Rattle.wire.proofs.Branches.{both, neither}
use Rattle.sedna_instant.specs.declared.fields.Clock.{Clock}
use Rattle.sedna_instant.specs.Calendar.{month_length, days_before}
use Rattle.sedna_instant.specs.DateTimes.{YearAt, FractionAt, is_formed, seconds_of}
use Rattle.sedna_instant.specs.inner.Bounds.{IsMonth, SecondsFit, InCalendar}
use Rattle.sedna_instant.proofs.Days.{has_days, days_31, ahead_335, years_by_division}

-- ---- what has the form of a date and time has what the day count and the seconds need

hour_24 : (hour : ℕ) (rest : Bool) → if (ltb hour 24) true (if (ltb 24 hour) false rest) ≡ true → hour ≤ 24
hour_24 hour rest e = by (ltb hour 24) refl e
  where
    by : (t : Bool) → ltb hour 24 ≡ t → if t true (if (ltb 24 hour) false rest) ≡ true → hour ≤ 24
    by true l g = omega (arith, ltb-true hour 24 l)
    by false l g = ltb-false 24 hour (neither (ltb 24 hour) rest g).0

pub record DayAndTime (c : Clock) : Type 0 where
  pub month : IsMonth c.month
  pub day_1 : 1 ≤ c.day
  pub day_31 : c.day ≤ 31
  pub hour_24 : c.hour ≤ 24
  pub minute_59 : c.minute ≤ 59
  pub second_59 : c.second ≤ 59

pub formed_parts : (y : YearAt) (c : Clock) (f : FractionAt) → is_formed y c f ≡ true → DayAndTime c
formed_parts y c f e =
    let days = month_length y.number c.month in
    let day = neither (ltb c.day 1) _ ((both f.formed _).0 ((both y.formed _).0 e).1).1 in
    let last = neither (ltb days c.day) _ day.1 in
    let minute = neither (ltb 59 c.minute) _ last.1 in
    let second = neither (ltb 59 c.second) _ minute.1 in
    let day_1 : 1 ≤ c.day = ltb-false c.day 1 day.0 in
    let day_last : c.day ≤ days = ltb-false days c.day last.0 in
    let month = has_days y.number c.month (omega arith) in
    record {
      month = month;
      day_1 = day_1;
      day_31 = omega (arith, days_31 y.number c.month month.month_12);
      hour_24 = hour_24 c.hour _ second.1;
      minute_59 = ltb-false 59 c.minute minute.0;
      second_59 = ltb-false 59 c.second second.0;
    }

pub formed_fit : (y : YearAt) (c : Clock) (f : FractionAt) (shift : ℕ) → is_formed y c f ≡ true → 1 ≤ y.number → y.number ≤ 9999 → shift ≤ 136800
    → SecondsFit y.number c shift
formed_fit y c f shift e year_1 year_9999 near =
    let p = formed_parts y c f e in
    record {
      date = record { year_1 = year_1; year_9999 = year_9999; a_month = p.month; day_1 = p.day_1; day_31 = p.day_31 };
      hour_24 = p.hour_24;
      minute_59 = p.minute_59;
      second_59 = p.second_59;
      shift_136800 = near;
    }

-- ---- the seconds of a date and time, with what its zone adds, and of the instant that it is: both are far below 2 ^ 63

-- up to the year 9999 there are no more days than these
pub few_days : {year month day : ℕ} → InCalendar year month day → days_before year month day ≤ 3652059
unfolding days_before
few_days {year} {month} {day} d = omega (arith, years_by_division (year - 1), ahead_335 year (month - 1) (omega arith))

either : (t : Bool) (x y m : ℕ) → x < m → y < m → mag (cond t (negsuc x) (pos y)) < m
either true x y m h k = h
either false x y m h k = k

mag_sub : (a b m : ℕ) → a < m → b < m → mag (sub_ℕ a b) < m
mag_sub a b m h k = either (ltb a b) (b - suc a) (a - b) m (omega arith) (omega arith)

module _ {year : ℕ} {c : Clock} {shift : ℕ} (fit : SecondsFit year c shift) where
  pub all_below : days_before year c.month c.day * 86400 + c.hour * 3600 + c.minute * 60 + c.second + shift < 2 ^ 63
  all_below = omega (arith, few_days fit.date)

  pub seconds_fit : SFits w64 (seconds_of year c shift)
  seconds_fit = record { sfits = mag_sub _ 62135683200 (2 ^ 63) all_below (omega arith) }
