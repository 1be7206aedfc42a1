-- The incident: on any one day, 09:00:00+02:00 is earlier than 08:30:00Z.
use Rattle.std.specs.Prelude.{Result, Ok}
use Rattle.wire.specs.declared.Refusal.{Refusal}
use mathlib.Core.Bool.{Bool, true, false, cond}
use mathlib.Core.List.{List, []}
use mathlib.Core.Logic.{inl}
use mathlib.Core.Path.{◌≡◌, refl, sym, ◌∙◌, ap}
use Prim.Native.Nat.{ℕ, zero, suc, ◌+◌, ◌-◌, ◌*◌, ◌≤◌, ◌<◌}
use native.Mathlib.Omega.{arith}
use borrow.Author.Tests.{ltb-true, ltb-false, le-ltb}
use lib.Dec.{ltb, lt→ltb}
use lib.IntN.{ℤ, pos, negsuc, neg_ℤ, sub_ℕ, ◌+ℤ◌, ◌-ℤ◌, +ℤ_assoc, +ℤ_comm}
use lib.ListN.{length}
use lib.Signed.{◌<ℤ◌, lt_z_yes}
use Rattle.wire.proofs.Branches.{apart}
use Rattle.sedna_digits.specs.Numbers.{number}
use Rattle.std.specs.declared.cmp.Ordering.TheVariants.{Less}
use Rattle.sedna_instant.specs.Calendar.{days_before}
use Rattle.sedna_instant.specs.DateTimes.{instant_of}
use Rattle.sedna_value.specs.declared.Value.{Value}
use Rattle.sedna_value.specs.Values.{from_dated, value_of}
use Rattle.sedna_value_laws.specs.DateTimeTexts as date-times
use Rattle.sedna_value_laws.specs.DateTimeTexts.{Zone, DateTime, Formed}
use Rattle.sedna_value_laws.specs.Incident.{expiry, clock, Incident}
use Rattle.sedna_value_laws.specs.Texts.{Kind}
use Rattle.sedna_value_laws.proofs.Order.{instants}
use Rattle.sedna_value_laws.proofs.Reader.{Answer, Reader}

-- what is read of a text that is of its form, and nothing that is listed under 16
pub record Read (t : DateTime) (a : Result Value Refusal) : Type 0 where
  pub value : Value
  pub is : a ≡ Ok value
  pub means : date-times.Means t value

pub read_as : {t : DateTime} {a : Result Value Refusal} → ¬ date-times.Excluded t → Answer Kind.instant t a → Read t a
read_as h (Answer.is v m) = record { value = v; is = refl; means = m }
read_as h (Answer.excluded b) = absurd (h b)

-- a time of a year in range, with a zone, and no more than nine digits
within : (t : DateTime) → t.minus ≡ false → 1 ≤ number t.year → number t.year ≤ 9999 → ¬ (t.zone ≡ Zone.missing) → t.fraction ≡ [] → ¬ date-times.Excluded t
within t m lo hi z f (date-times.Excluded.negative e) = apart (cc)
within t m lo hi z f (date-times.Excluded.year_0000 e) = omega arith
within t m lo hi z f (date-times.Excluded.above_9999 e) = omega arith
within t m lo hi z f (date-times.Excluded.unzoned e) = z e
within t m lo hi z f (date-times.Excluded.more_digits e) = let l : length t.fraction ≡ 0 = ap length f in omega arith

-- taking the same away keeps the order
less_minus : (x y e : ℕ) → x < y → sub_ℕ x e <ℤ sub_ℕ y e
less_minus x y e h = by (ltb x e) refl (ltb y e) refl
  where
    by : (p : Bool) → ltb x e ≡ p → (q : Bool) → ltb y e ≡ q → cond p (negsuc (e - suc x)) (pos (x - e)) <ℤ cond q (negsuc (e - suc y)) (pos (y - e))
    by true f true g = let u = ltb-true x e f in let v = ltb-true y e g in lt_z_yes (lt→ltb (e - suc y) (e - suc x) (omega arith))
    by true f false g = lt_z_yes tt
    by false f true g = let u = ltb-false x e f in let v = ltb-true y e g in absurd (omega arith)
    by false f false g = let u = ltb-false x e f in let v = ltb-false y e g in lt_z_yes (lt→ltb (x - e) (y - e) (omega arith))

less_sub : (x y e : ℕ) → x < y → (pos x -ℤ pos e) <ℤ (pos y -ℤ pos e)
less_sub x y zero h = lt_z_yes (lt→ltb (x + 0) (y + 0) (omega arith))
less_sub x y (suc e) h = less_minus x y (suc e) h

-- 09:00 in a zone that is two hours ahead is 07:00 in UTC
expires : (days : ℕ) → pos (days * 86400 + 32400 + 0 + 0) -ℤ pos 7200 ≡ pos (days * 86400 + 25200)
expires days = rw (le-ltb (days * 86400 + 32400 + 0 + 0) 7200 (omega arith)) (ap pos (omega arith))

-- 09:00 in a zone that is two hours ahead comes before 08:30 of the same day
sooner : (days epoch : ℕ) → (pos (days * 86400 + 32400 + 0 + 0) -ℤ pos 7200 -ℤ pos epoch) <ℤ (pos (days * 86400 + 28800 + 1800 + 0) -ℤ pos 0 -ℤ pos epoch)
sooner days epoch =
    rw (expires days) (less_sub (days * 86400 + 25200) (days * 86400 + 28800 + 1800 + 0 + 0) epoch (omega arith))

-- ninety minutes lie between the two
more : (x z : ℕ) (n : ℤ) → z ≡ x + 5400 → pos z +ℤ n ≡ pos x +ℤ n +ℤ pos 5400
more x z n h =
    ap (λ (y : ℕ). pos y +ℤ n) h ∙ +ℤ_assoc (pos x) (pos 5400) n ∙ ap (λ (y : ℤ). pos x +ℤ y) (+ℤ_comm (pos 5400) n) ∙ sym (+ℤ_assoc (pos x) n (pos 5400))

apart_by : (days epoch : ℕ)
    → pos (days * 86400 + 28800 + 1800 + 0) -ℤ pos 0 -ℤ pos epoch ≡ pos (days * 86400 + 32400 + 0 + 0) -ℤ pos 7200 -ℤ pos epoch +ℤ pos 5400
apart_by days epoch = rw (expires days) (more (days * 86400 + 25200) (days * 86400 + 28800 + 1800 + 0 + 0) (neg_ℤ (pos epoch)) (omega arith))

pub incident : Reader Kind.instant (λ (s : List ℕ). from_dated (instant_of s)) → Incident
unfolding value_of
incident r year month day formed lo hi =
    let a = read_as (within (expiry year month day) refl lo hi (λ e. apart (cc)) refl) (r.complete (expiry year month day) formed) in
    let d = formed.date in
    let u : Formed (clock year month day) =
    record {
      year = formed.year;
      date = record { month_1 = d.month_1; month_12 = d.month_12; day_1 = d.day_1; day_last = d.day_last };
      time = date-times.FormedTime.day (omega arith) (omega arith) (omega arith);
      fraction = tt;
      zone = tt;
    } in
    let b = read_as (within (clock year month day) refl lo hi (λ e. apart (cc)) refl) (r.complete (clock year month day) u) in
    record {
      expires = a.means.instant;
      now = b.means.instant;
      expiry_read = a.is ∙ ap Ok a.means.is;
      now_read = b.is ∙ ap Ok b.means.is;
      earlier = (instants a.means.instant b.means.instant Less).1 (inl
          (rw (a.means.seconds_are, b.means.seconds_are) (sooner (days_before (number year) month day) (days_before 1970 1 1 * 86400))));
      ninety_minutes = rw (a.means.seconds_are, b.means.seconds_are) (apart_by (days_before (number year) month day) (days_before 1970 1 1 * 86400));
    }
