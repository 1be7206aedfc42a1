-- Instants are read exactly.
use Rattle.std.specs.Prelude.{Result, Err}
use Rattle.wire.specs.declared.Refusal.{Refusal}
use mathlib.Core.Path.{◌≡◌, refl, sym, ap, ◌∙◌, subst}
use mathlib.Core.List.{List, ◌++◌}
use mathlib.Core.Bool.{true}
use mathlib.Core.Logic.{◌⊎◌, inl, inr}
use Prim.Native.Nat.{ℕ, zero, suc, ◌+◌, ◌-◌, ◌*◌, ◌^◌, ◌≤◌, ◌<◌}
use native.Mathlib.Omega.{arith}
use lib.IntN.{ℤ, pos, neg_ℤ, ◌+ℤ◌, ◌-ℤ◌, +ℤ_assoc, +ℤ_comm, +ℤ-neg_ℤ_cancel, -ℤ-+ℤ_cancel, neg_ℤ-neg_ℤ, neg_ℤ-+ℤ}
use lib.ListN.{length, replicate, length-replicate}
use lib.Dec.{ltb}
use borrow.Author.Tests.{ltb-true, ltb-false}
use Rattle.wire.specs.declared.Refusal.TheVariants.{NotOfForm}
use Rattle.wire.proofs.Branches.{apart}
use Rattle.sedna_digits.specs.Numbers.{number}
use Rattle.sedna_digits.specs.Digits.{kept}
use Rattle.sedna_digits.proofs.Numbers.{number_append}
use Rattle.sedna_digits.proofs.Kept.{kept_by, kept-zero}
use Rattle.sedna_digits.proofs.Runs.{kept-digits}
use Rattle.sedna_instant.specs.declared.Instant.{Instant}
use Rattle.sedna_instant.specs.Calendar.{years_to, months_to, days_before}
use Rattle.sedna_instant.specs.DateTimes.{seconds_of, nanos_of, zoned_of, instant_of}
use Rattle.sedna_instant.specs.DateTimes as instants
use Rattle.sedna_value.specs.declared.Value.TheVariants.{At}
use Rattle.sedna_value.specs.declared.Value.{Value}
use Rattle.sedna_value.specs.Values.{from_dated}
use Rattle.sedna_value_laws.specs.DateTimeTexts.{Zone, DateTime, fraction_text, Formed, FormedZone, Excluded, offset, seconds, local, nanoseconds, written, Means}
use Rattle.sedna_value_laws.specs.Texts.{Kind}
use Rattle.sedna_value_laws.proofs.Reader.{Answer, Reader}
use Rattle.sedna_value_laws.proofs.DateTimesPlaces.{of_test, clock_of}
use Rattle.sedna_value_laws.proofs.DateTimesZones.{zone_of}
use Rattle.sedna_value_laws.proofs.DateTimesYears.{after, year_is}
use Rattle.sedna_value_laws.proofs.DateTimesFractions.{fraction_is}
use Rattle.sedna_value_laws.proofs.DateTimesFields.{instant-sound, instant-read}

-- ---- seconds and nanoseconds: local time with what a zone adds on top of a day, against local time less the zone's offset

-- a + (d + b) + (c - d) is a + b + c
across : (a b c d : ℤ) → a +ℤ (d +ℤ b) +ℤ (c -ℤ d) ≡ a +ℤ b +ℤ c
across a b c d =
    ap (λ (z : ℤ). a +ℤ z +ℤ (c -ℤ d)) (+ℤ_comm d b) ∙ ap (λ (z : ℤ). z +ℤ (c -ℤ d)) (sym (+ℤ_assoc a b d)) ∙ +ℤ_assoc (a +ℤ b) d (c -ℤ d)
    ∙ ap (λ (z : ℤ). a +ℤ b +ℤ z) (+ℤ_comm d (c -ℤ d) ∙ -ℤ-+ℤ_cancel c d)

-- what is added on top of d is taken off the offset
pub shifted : (x shift d e : ℕ) (o : ℤ) → pos shift ≡ pos d -ℤ o → pos (x + shift) -ℤ pos (e + d) ≡ pos x -ℤ o -ℤ pos e
shifted x shift d e o p =
    ap (λ (z : ℤ). pos x +ℤ z -ℤ pos (e + d)) p ∙ ap (λ (z : ℤ). pos x +ℤ (pos d -ℤ o) +ℤ z) (neg_ℤ-+ℤ (pos e) (pos d)) ∙ across (pos x) (neg_ℤ o) (neg_ℤ (pos e)) (pos d)

pub less : (d k : ℕ) → k ≤ d → pos (d - k) ≡ pos d -ℤ pos k
less d k h =
    let e : d - k + k ≡ d = omega arith in
    sym (ap (λ (n : ℕ). pos n -ℤ pos k) (sym e) ∙ +ℤ-neg_ℤ_cancel (pos (d - k)) (pos k))

pub more : (d k : ℕ) → pos (d + k) ≡ pos d -ℤ neg_ℤ (pos k)
more d k = ap (λ (z : ℤ). pos d +ℤ z) (sym (neg_ℤ-neg_ℤ (pos k)))

-- 1970-01-01T00:00:00, and a day
pub epoch : days_before 1970 1 1 * 86400 + 86400 ≡ 62135683200
unfolding days_before years_to months_to
epoch = refl

number_zeros : (n : ℕ) → number (replicate n 0) ≡ 0
unfolding number
number_zeros zero = refl
number_zeros (suc n) = omega (arith, number_zeros n)

-- digits with zeros behind them
pub padded : (ds : List ℕ) (n : ℕ) → number (ds ++ replicate n 0) ≡ number ds * 10 ^ n
padded ds n =
    let e = number_append ds (replicate n 0) in
    let f = number_zeros n in
    e ∙ ap (λ (k : ℕ). number ds * 10 ^ k + number (replicate n 0)) (length-replicate n 0) ∙ (omega arith)

-- ---- what is answered of an instant's fields: the instant that they mean, or 16

kept_small : (n : ℕ) → kept n ≤ 9999 → kept n ≡ n
kept_small n h = kept_by n (λ s e. e) (λ g e. absurd (omega arith))

kept_great : (n : ℕ) → 9999 < kept n → 9999 < n
kept_great n h = kept_by n (λ s e. omega arith) (λ g e. omega arith)

module _ (t : DateTime) (f : Formed t) where
  abbrev n : ℕ
  n = number t.year

  seconds-read : (shift : ℕ) → pos shift ≡ pos 86400 -ℤ offset t.zone → kept n ≡ n → seconds_of (kept n) (clock_of t) shift ≡ seconds t
  seconds-read shift e k =
      ap (λ (y : ℕ). seconds_of y (clock_of t) shift) k ∙ ap (λ (m : ℕ). pos (local t + shift) -ℤ pos m) (sym epoch)
      ∙ shifted (local t) shift 86400 (days_before 1970 1 1 * 86400) (offset t.zone) e

  nanos_read : length t.fraction ≤ 9 → kept (number t.fraction) * 10 ^ (9 - length t.fraction) ≡ nanoseconds t
  nanos_read l = ap (λ (m : ℕ). m * 10 ^ (9 - length t.fraction)) (kept-digits t.fraction f.fraction (omega arith)) ∙ sym (padded t.fraction (9 - length t.fraction))

  abbrev Right : Result Instant Refusal → Type 0
  Right d = Answer Kind.instant t (from_dated d)

  module _ (at end : ℕ) where
    -- with a zone
    in_zone : (shift : ℕ) → pos shift ≡ pos 86400 -ℤ offset t.zone → (t.zone ≡ Zone.missing → ⊥)
        → Right (instants.timed_of (year_is t.minus true t.year at) (clock_of t) (fraction_is true t.fraction end) shift)
    in_zone shift e z =
        of_test Right t.minus _ _ (λ m. Answer.excluded (Excluded.negative m)) λ positive.
        of_test Right (ltb (kept n) 1) _ _ (λ y. let k = ltb-true (kept n) 1 y in Answer.excluded (Excluded.year_0000 (kept-zero n (omega arith)))) λ some.
        of_test Right (ltb 9999 (kept n)) _ _ (λ y. Answer.excluded (Excluded.above_9999 (kept_great n (ltb-true 9999 (kept n) y)))) λ few.
        of_test Right (ltb 9 (length t.fraction)) _ _ (λ l. Answer.excluded (Excluded.more_digits (ltb-true 9 (length t.fraction) l))) λ nine.
        let i : Instant = record { seconds = seconds_of (kept n) (clock_of t) shift; nanos = nanos_of (fraction_is true t.fraction end) } in
        let y = ltb-false (kept n) 1 some in
        let x = ltb-false 9999 (kept n) few in
        let k = kept_small n x in
        let l = ltb-false 9 (length t.fraction) nine in
        Answer.is (At i) (record {
          instant = i;
          is = refl;
          positive = positive;
          year_1 = omega arith;
          year_9999 = omega arith;
          zoned = z;
          nine = l;
          seconds_are = seconds-read shift e k;
          nanos_are = nanos_read l;
        })

    pub answered : Right (zoned_of (year_is t.minus true t.year at) (clock_of t) (fraction_is true t.fraction end) (zone_of t.zone))
    answered = by t.zone refl f.zone
      where
        of_zone : (z : Zone) → t.zone ≡ z → pos 86400 -ℤ offset z ≡ pos 86400 -ℤ offset t.zone
        of_zone z e = ap (λ (z : Zone). pos 86400 -ℤ offset z) (sym e)

        by : (z : Zone) → t.zone ≡ z → FormedZone z → Right (zoned_of (year_is t.minus true t.year at) (clock_of t) (fraction_is true t.fraction end) (zone_of z))
        by Zone.missing e h = Answer.excluded (Excluded.unzoned e)
        by Zone.utc e h = in_zone 86400 (of_zone Zone.utc e) λ m. apart (cc)
        by (Zone.ahead hours minutes) e h =
            in_zone (86400 - (hours * 60 + minutes) * 60) (less 86400 ((hours * 60 + minutes) * 60) (omega arith) ∙ of_zone (Zone.ahead hours minutes) e) λ m. apart (cc)
        by (Zone.behind hours minutes) e h =
            in_zone (86400 + (hours * 60 + minutes) * 60) (more 86400 ((hours * 60 + minutes) * 60) ∙ of_zone (Zone.behind hours minutes) e) λ m. apart (cc)

-- ---- instants are read exactly

one-instant : (t : DateTime) (v w : Value) → Means t v → Means t w → v ≡ w
one-instant t v w m n =
    let seconds = m.seconds_are ∙ sym n.seconds_are in
    let nanos = m.nanos_are ∙ sym n.nanos_are in
    m.is ∙ (λ x. At (record { seconds = seconds x; nanos = nanos x })) ∙ sym n.is

never_both : (t : DateTime) (v : Value) → Means t v → Excluded t → ⊥
never_both t v m (Excluded.negative b) = apart (cc)
never_both t v m (Excluded.year_0000 b) = omega arith
never_both t v m (Excluded.above_9999 b) = omega arith
never_both t v m (Excluded.unzoned b) = m.zoned b
never_both t v m (Excluded.more_digits b) = omega arith

pub instant_reader : Reader Kind.instant (λ (s : List ℕ). from_dated (instant_of s))
instant_reader = record {
  sound = λ s. by s (instant-sound s);
  complete = λ t f. subst (λ (d : Result Instant Refusal). Answer Kind.instant t (from_dated d)) (sym (instant-read t f)) (answered t f (after t.minus) (after t.minus + length t.year + 15 + length (fraction_text t.fraction)));
  one_value = one-instant;
  apart = never_both;
}
  where
    by : (s : List ℕ) → ((t : DateTime) × Formed t × (s ≡ written t)) ⊎ (instant_of s ≡ Err NotOfForm)
        → ((t : DateTime) × Formed t × (s ≡ written t)) ⊎ (from_dated (instant_of s) ≡ Err NotOfForm)
    by s (inl t) = inl t
    by s (inr e) = inr (ap from_dated e)
