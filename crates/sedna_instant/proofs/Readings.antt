-- What a text is read as, field by field: the first that is not there, or has not its form, refuses it.
use Rattle.std.specs.Prelude.{Result, Err, Option, Some, None}
use Rattle.wire.specs.declared.Refusal.{Refusal}
use mathlib.Core.Bool.{Bool, true, false}
use mathlib.Core.List.{List}
use mathlib.Core.Path.{◌≡◌, refl, sym, ap, ◌∙◌}
use Prim.Native.Nat.{ℕ, ◌+◌, ◌<◌}
use native.Mathlib.Omega.{arith}
use lib.Dec.{ltb}
use lib.ListN.{length}
use borrow.Author.Tests.{lt-ltb}
use Rattle.wire.specs.Bytes.{if}
use Rattle.wire.specs.declared.Refusal.TheVariants.{NotOfForm}
use Rattle.sedna_instant.specs.declared.Instant.{Instant}
use Rattle.sedna_instant.specs.declared.fields.Clock.{Clock}
use Rattle.sedna_instant.specs.declared.fields.Fraction.{Fraction}
use Rattle.sedna_instant.specs.declared.fields.Year.{Year}
use Rattle.sedna_instant.specs.DateTimes.{YearAt, FractionAt, year_of, formed_year, year_was, marks_at, clock_at, whole_clock, clock_there}
use Rattle.sedna_instant.specs.DateTimes.{fraction_at, formed_fraction, fraction_was, is_formed, zone_at, zoned_of, instant_by, instant_from, instant_of}
use Rattle.sedna_instant.proofs.Seconds.{formed_parts}

module _ (s : List ℕ) where
  abbrev pub by_fraction : Year → Clock → Option Fraction → Result Instant Refusal
  by_fraction y c None = Err NotOfForm
  by_fraction y c (Some f) =
      if (is_formed (year_was y) c (fraction_was f)) (zoned_of (year_was y) c (fraction_was f) (zone_at s f.end)) (Err NotOfForm)

  abbrev pub by_clock : Year → Option Clock → Result Instant Refusal
  by_clock y None = Err NotOfForm
  by_clock y (Some c) = by_fraction y c (formed_fraction (fraction_at s (y.end + 15)))

  abbrev pub by_year : Option Year → Result Instant Refusal
  by_year None = Err NotOfForm
  by_year (Some y) = by_clock y (clock_there s y.end)

  fraction-step : (y : Year) (c : Clock) (f : FractionAt) → by_fraction y c (formed_fraction f) ≡ instant_by s (year_was y) c f
  fraction-step y c f = by f.formed refl
    where
      by : (t : Bool) → f.formed ≡ t → by_fraction y c (formed_fraction f) ≡ instant_by s (year_was y) c f
      by true e = simp e
      by false e = simp e

  -- a number of a formed date and time has two digits
  all_whole : (y : Year) (c : Clock) (f : FractionAt) → is_formed (year_was y) c f ≡ true → whole_clock c ≡ Some c
  all_whole y c f e =
      let p = formed_parts (year_was y) c f e in
      let m = p.month.month_12 in
      let month : c.month < 100 = omega arith in
      let day : c.day < 100 = omega (arith, p.day_31) in
      let hour : c.hour < 100 = omega (arith, p.hour_24) in
      let minute : c.minute < 100 = omega (arith, p.minute_59) in
      let second : c.second < 100 = omega (arith, p.second_59) in
      simp (lt-ltb _ _ month, lt-ltb _ _ day, lt-ltb _ _ hour, lt-ltb _ _ minute, lt-ltb _ _ second)

  clock-step : (y : Year) (c : Clock) → by_clock y (whole_clock c) ≡ instant_by s (year_was y) c (fraction_at s (y.end + 15))
  clock-step y c = by (is_formed (year_was y) c f) refl
    where
      f : FractionAt
      f = fraction_at s (y.end + 15)

      none : is_formed (year_was y) c f ≡ false → Err NotOfForm ≡ instant_by s (year_was y) c f
      none e = rw e

      some : by_clock y (Some c) ≡ instant_by s (year_was y) c f
      some = fraction-step y c f

      unless : (t : Bool) (o : Option Clock) → is_formed (year_was y) c f ≡ false → by_clock y o ≡ instant_by s (year_was y) c f
          → by_clock y (if t o None) ≡ instant_by s (year_was y) c f
      unless true o e h = h
      unless false o e h = none e

      by : (t : Bool) → is_formed (year_was y) c f ≡ t → by_clock y (whole_clock c) ≡ instant_by s (year_was y) c f
      by true e = rw (all_whole y c f e) some
      by false e =
          unless (ltb c.month 100) _ e (unless (ltb c.day 100) _ e (unless (ltb c.hour 100) _ e
          (unless (ltb c.minute 100) _ e (unless (ltb c.second 100) _ e some))))

  year-step : (y : YearAt) → by_year (formed_year y) ≡ instant_from s y
  year-step y = by y.formed refl (ltb (length s) (y.end + 15)) refl (marks_at s y.end) refl
    where
      by : (t : Bool) → y.formed ≡ t → (a : Bool) → ltb (length s) (y.end + 15) ≡ a → (m : Bool) → marks_at s y.end ≡ m
          → by_year (formed_year y) ≡ instant_from s y
      by true e true h m g = simp (e, h)
      by true e false h true g = rw (e, h, g) (clock-step (record { minus = y.minus; number = y.number; end = y.end }) (clock_at s y.end))
      by true e false h false g = simp (e, h, g)
      by false e true h m g = simp (e, h)
      by false e false h true g = simp (e, h, g)
      by false e false h false g = simp (e, h, g)

  pub read_by_fields : by_year (formed_year (year_of s)) ≡ instant_of s
  unfolding instant_of
  read_by_fields = year-step (year_of s)

  pub no_year : formed_year (year_of s) ≡ None → instant_of s ≡ Err NotOfForm
  no_year e = sym read_by_fields ∙ ap by_year e

  module _ (y : Year) (year : formed_year (year_of s) ≡ Some y) where
    pub no_clock : clock_there s y.end ≡ None → instant_of s ≡ Err NotOfForm
    no_clock e = sym read_by_fields ∙ ap by_year year ∙ ap (by_clock y) e

    module _ (c : Clock) (clock : clock_there s y.end ≡ Some c) where
      pub no_fraction : formed_fraction (fraction_at s (y.end + 15)) ≡ None → instant_of s ≡ Err NotOfForm
      no_fraction e = sym read_by_fields ∙ ap by_year year ∙ ap (by_clock y) clock ∙ ap (by_fraction y c) e

      module _ (f : Fraction) (fraction : formed_fraction (fraction_at s (y.end + 15)) ≡ Some f) where
        pub all_fields : instant_of s ≡ by_fraction y c (Some f)
        all_fields = sym read_by_fields ∙ ap by_year year ∙ ap (by_clock y) clock ∙ ap (by_fraction y c) fraction

        pub unformed : is_formed (year_was y) c (fraction_was f) ≡ false → Err NotOfForm ≡ instant_of s
        unformed e = sym (rw e at all_fields)

        pub formed : is_formed (year_was y) c (fraction_was f) ≡ true → (z : Result ℕ Refusal) → zone_at s f.end ≡ z → instant_of s ≡ zoned_of (year_was y) c (fraction_was f) z
        formed e z p = (rw e at all_fields) ∙ ap (zoned_of (year_was y) c (fraction_was f)) p
