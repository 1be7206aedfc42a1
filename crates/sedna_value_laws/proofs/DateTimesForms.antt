-- What is tested of an instant's fields, and what is asked of them.
use mathlib.Core.Path.{◌≡◌, refl, sym, ap, subst, ◌∙◌}
use mathlib.Core.Bool.{Bool, true, false}
use mathlib.Core.List.{List, [], ◌∷◌}
use Prim.Native.Nat.{ℕ, zero, suc, ◌*◌, ◌%◌, ◌^◌, ◌≤◌, ◌<◌}
use native.Mathlib.Nat.{one-le-pow, mul-pos}
use native.Mathlib.Omega.{arith}
use lib.Dec.{eqb, ltb}
use lib.ListN.{length}
use borrow.Author.Tests.{eq-eqb, eqb-true, lt-ltb, ltb-true, le-ltb, ltb-false}
use Rattle.wire.specs.Bytes.{if}
use Rattle.wire.specs.Every.{Every}
use Rattle.sedna_digits.specs.Digits.{kept}
use Rattle.sedna_digits.specs.Numbers.{number}
use Rattle.sedna_digits.proofs.Kept.{kept_exact, kept_400, kept-zero}
use Rattle.sedna_instant.specs.Calendar.{month_length}
use Rattle.sedna_instant.proofs.Days.{has_days, days_31}
use Rattle.sedna_instant.specs.DateTimes.{YearAt, FractionAt, time_right, is_formed}
use Rattle.sedna_instant.specs.declared.fields.Clock.{Clock}
use Rattle.sedna_value_laws.specs.DateTimeTexts.{DateTime, FormedDate, FormedTime}
use Rattle.wire.proofs.Branches.{both, neither}
use Rattle.sedna_value_laws.proofs.Decimals.{digits-zero}
use Rattle.sedna_value_laws.proofs.DateTimesPlaces.{clock_of, Twos}

-- a month goes by its year's remainder by 400
by_100 : (n : ℕ) → n % 400 % 100 ≡ n % 100
by_100 n = omega arith

by_4 : (n : ℕ) → n % 400 % 4 ≡ n % 4
by_4 n = omega arith

month_400 : (a b m : ℕ) → a % 400 ≡ b % 400 → month_length a m ≡ month_length b m
month_400 a b m e =
    let f : a % 100 ≡ b % 100 = sym (by_100 a) ∙ ap (λ (n : ℕ). n % 100) e ∙ by_100 b in
    let g : a % 4 ≡ b % 4 = sym (by_4 a) ∙ ap (λ (n : ℕ). n % 4) e ∙ by_4 b in
    simp (e, f, g)

zero-digits : (ds : List ℕ) → number ds ≡ 0 → Every (λ (d : ℕ). d ≡ 0) ds
unfolding number
zero-digits [] e = tt
zero-digits (d ∷ ds) e = (by d (omega arith), zero-digits ds (omega arith))
  where
    by : (d : ℕ) → d * 10 ^ length ds ≡ 0 → d ≡ 0
    by zero e = refl
    by (suc d) e = absurd (omega (arith, mul-pos {m = suc d} (omega arith) (one-le-pow (length ds) 10 (omega arith))))

-- ---- the time

module _ (t : DateTime) (n : ℕ) where
  time-sound : (n ≡ 0 → Every (λ (d : ℕ). d ≡ 0) t.fraction) → time_right (clock_of t) n ≡ true → FormedTime t
  time-sound z h =
      let m = neither (ltb 59 t.minute) _ h in
      let s = neither (ltb 59 t.second) _ m.1 in
      by (ltb t.hour 24) refl s.1 (ltb-false 59 t.minute m.0) (ltb-false 59 t.second s.0)
    where
      by : (b : Bool) → ltb t.hour 24 ≡ b
          → if b true (if (ltb 24 t.hour) false (if (ltb 0 t.minute) false (if (ltb 0 t.second) false (eqb n 0)))) ≡ true → t.minute ≤ 59 → t.second ≤ 59 → FormedTime t
      by true f g m s = let k = ltb-true t.hour 24 f in FormedTime.day (omega arith) m s
      by false f g m s =
          let a = neither (ltb 24 t.hour) _ g in
          let b = neither (ltb 0 t.minute) _ a.1 in
          let c = neither (ltb 0 t.second) (eqb n 0) b.1 in
          let h = ltb-false t.hour 24 f in
          let k = ltb-false 24 t.hour a.0 in
          let i = ltb-false 0 t.minute b.0 in
          let j = ltb-false 0 t.second c.0 in
          FormedTime.midnight (omega arith) (omega arith) (omega arith) (z (eqb-true n 0 c.1))

  time-read : (Every (λ (d : ℕ). d ≡ 0) t.fraction → n ≡ 0) → FormedTime t → time_right (clock_of t) n ≡ true
  time-read z (FormedTime.day h m s) = simp (le-ltb 59 t.minute m, le-ltb 59 t.second s, lt-ltb t.hour 24 (omega arith))
  time-read z (FormedTime.midnight h m s f) =
      simp (
        le-ltb 59 t.minute (omega arith),
        le-ltb 59 t.second (omega arith),
        le-ltb t.hour 24 (omega arith),
        le-ltb 24 t.hour (omega arith),
        le-ltb 0 t.minute (omega arith),
        le-ltb 0 t.second (omega arith),
        eq-eqb n 0 (z f),
      )

-- ---- all fields

-- what was tested, one by one
pub record Tested (y : YearAt) (c : Clock) (f : FractionAt) : Type 0 where
  pub year : y.formed ≡ true
  pub fraction : f.formed ≡ true
  pub day_1 : 1 ≤ c.day
  pub day_last : c.day ≤ month_length y.number c.month
  pub time : time_right c f.number ≡ true

pub tested : (y : YearAt) (c : Clock) (f : FractionAt) → is_formed y c f ≡ true → Tested y c f
tested y c f h =
    let a = (both y.formed _).0 h in
    let b = (both f.formed _).0 a.1 in
    let d = neither (ltb c.day 1) _ b.1 in
    let l = neither (ltb (month_length y.number c.month) c.day) (time_right c f.number) d.1 in
    record {
      year = a.0;
      fraction = b.0;
      day_1 = ltb-false c.day 1 d.0;
      day_last = ltb-false (month_length y.number c.month) c.day l.0;
      time = l.1;
    }

module _ (t : DateTime) (y : YearAt) (f : FractionAt) (year-is : y.number ≡ kept (number t.year)) (fraction-is : f.number ≡ kept (number t.fraction)) where
  same-month : month_length y.number t.month ≡ month_length (number t.year) t.month
  same-month = ap (λ (n : ℕ). month_length n t.month) year-is ∙ month_400 (kept (number t.year)) (number t.year) t.month (kept_400 (number t.year))

  module _ (h : Tested y (clock_of t) f) where
    pub date-sound : FormedDate t
    date-sound =
        let m = has_days y.number t.month (let a = h.day_1 in let b = h.day_last in omega arith) in
        record { month_1 = m.month_1; month_12 = m.month_12; day_1 = h.day_1; day_last = subst (λ (n : ℕ). t.day ≤ n) same-month h.day_last }

    pub time-formed : FormedTime t
    time-formed = time-sound t f.number (λ z. zero-digits t.fraction (kept-zero (number t.fraction) (sym fraction-is ∙ z))) h.time

  pub form-read : y.formed ≡ true → f.formed ≡ true → FormedDate t → FormedTime t → is_formed y (clock_of t) f ≡ true
  form-read a b d i =
      let last : t.day ≤ month_length y.number t.month = subst (λ (n : ℕ). t.day ≤ n) (sym same-month) d.day_last in
      let none : Every (λ (d : ℕ). d ≡ 0) t.fraction → f.number ≡ 0 = λ z. fraction-is ∙ ap kept (digits-zero t.fraction z) ∙ kept_exact 0 (omega arith) in
      simp (a, b, le-ltb t.day 1 d.day_1, le-ltb (month_length y.number t.month) t.day last, time-read t f.number none i)

-- numbers of a formed date and time have two digits
pub formed_twos : (t : DateTime) → FormedDate t → FormedTime t → Twos (clock_of t)
formed_twos t d i = by i
  where
    day : t.day < 100
    day = let l = d.day_last in omega (arith, days_31 (number t.year) t.month d.month_12)

    month : t.month < 100
    month = let l = d.month_12 in omega arith

    by : FormedTime t → Twos (clock_of t)
    by (FormedTime.day h m s) = record { month = month; day = day; hour = omega arith; minute = omega arith; second = omega arith }
    by (FormedTime.midnight h m s f) = record { month = month; day = day; hour = omega arith; minute = omega arith; second = omega arith }
