-- A text that is no instant of its form is refused with 15, and one that is is read field by field.
use Rattle.std.specs.Prelude.{Result, Ok, Err}
use mathlib.Core.Path.{◌≡◌, refl, sym, ap, subst, ◌∙◌}
use mathlib.Core.Bool.{true, Bool, false}
use mathlib.Core.List.{List, ◌++◌}
use mathlib.Core.Logic.{◌⊎◌, inl, inr}
use Prim.Native.Nat.{ℕ, ◌+◌, ◌≤◌}
use native.Mathlib.Omega.{arith}
use lib.Dec.{ltb, eqb}
use lib.ListN.{length, drop, length-drop, get_or, length-append, length-map}
use lib.Seq.{drop-drop, drop_at, drop-append_seam}
use borrow.Author.Tests.{ltb-false, le-ltb}
use Rattle.wire.specs.declared.Refusal.TheVariants.{NotOfForm}
use Rattle.wire.proofs.Branches.{apart}
use Rattle.sedna_digits.specs.Numbers.{text}
use Rattle.sedna_digits.specs.Digits.{is_digit}
use Rattle.sedna_instant.specs.declared.fields.Clock.{Clock}
use Rattle.wire.specs.declared.Refusal.{Refusal}
use Rattle.wire.specs.declared.Refusal.TheVariants as refusals
use Rattle.sedna_instant.specs.DateTimes.{YearAt, FractionAt, year_of, marks_at, clock_at, fraction_at, zone_at, zoned_of, is_formed, instant_of, instant_by, instant_from}
use Rattle.sedna_value_laws.specs.DateTimeTexts.{DateTime, Formed, minus_text, clock_text, fraction_text, zone_text, written, Zone}
use Rattle.sedna_value_laws.proofs.DateTimesPlaces.{unless, first, second, parts, marks_drop, clock-drop, zone-drop, Twos, text_of, clock-sound, clock_of, marks_read, clock-read}
use Rattle.sedna_value_laws.proofs.DateTimesYears.{year-sound, after, year_is, year-read}
use Rattle.sedna_value_laws.proofs.DateTimesFractions.{fraction_sound, fraction_is, fraction-read}
use Rattle.sedna_value_laws.proofs.DateTimesZones.{zone-sound, zone_of, zone-read}
use Rattle.sedna_value_laws.proofs.DateTimesForms.{Tested, tested, date-sound, time-formed, formed_twos, form-read}

-- ---- a text either is that of an instant of its form, or is refused with 15

of_form : (r : Refusal) → (r ≡ NotOfForm) ⊎ (r ≡ NotOfForm → ⊥)
of_form refusals.NotOfForm = inl refl
of_form refusals.MoreBytes = inr (λ e. apart (cc))
of_form refusals.UnknownInstruction = inr (λ e. apart (cc))
of_form refusals.OtherSide = inr (λ e. apart (cc))
of_form refusals.BodyTooLong = inr (λ e. apart (cc))
of_form refusals.FieldCut = inr (λ e. apart (cc))
of_form refusals.StringFormat = inr (λ e. apart (cc))
of_form refusals.BytesLeftOver = inr (λ e. apart (cc))
of_form refusals.ValueNotAllowed = inr (λ e. apart (cc))
of_form refusals.OutOfOrder = inr (λ e. apart (cc))
of_form refusals.NoRoom = inr (λ e. apart (cc))
of_form refusals.NoEncoding = inr (λ e. apart (cc))
of_form refusals.BufferOverrun = inr (λ e. apart (cc))
of_form refusals.BadEscape = inr (λ e. apart (cc))
of_form refusals.NoSuchPart = inr (λ e. apart (cc))
of_form refusals.OutOfRange = inr (λ e. apart (cc))

module _ (s : List ℕ) where
  abbrev year : YearAt
  year = year_of s

  abbrev clock : Clock
  clock = clock_at s year.end

  abbrev fraction : FractionAt
  fraction = fraction_at s (year.end + 15)

  -- every test was passed
  record Passed : Type 0 where
    room : year.end + 15 ≤ length s
    marks : marks_at s year.end ≡ true
    right : Tested year clock fraction
    zoned : zone_at s fraction.end ≡ Err NotOfForm → ⊥

  passes : Passed ⊎ (instant_of s ≡ Err NotOfForm)
  unfolding instant_of
  passes =
      unless (ltb (length s) (year.end + 15)) _ _ _ (λ e. inr refl) λ room.
      unless (marks_at s year.end) _ _ _ (λ marks.
      unless (is_formed year clock fraction) _ _ _ (λ right. by (zone_at s fraction.end) refl (ltb-false (length s)
      (year.end + 15) room) marks (tested year clock fraction right)) λ e. inr refl) λ e. inr refl
    where
      by : (z : Result ℕ Refusal) → zone_at s fraction.end ≡ z → year.end + 15 ≤ length s → marks_at s year.end ≡ true → Tested year clock fraction
          → Passed ⊎ (zoned_of year clock fraction z ≡ Err NotOfForm)
      by (Ok n) e room marks right = inl (record { room = room; marks = marks; right = right; zoned = λ z. apart (cc) })
      by (Err r) e room marks right = refused (of_form r)
        where
          refused : (r ≡ NotOfForm) ⊎ (r ≡ NotOfForm → ⊥) → Passed ⊎ (zoned_of year clock fraction (Err r) ≡ Err NotOfForm)
          refused (inl f) = inr (ap Err f)
          refused (inr n) = inl (record { room = room; marks = marks; right = right; zoned = λ z. n (cc) })

-- fifteen bytes are month, day and time
clock-front : (s : List ℕ) (at : ℕ) → at + 15 ≤ length s → marks_at s at ≡ true → Twos (clock_at s at) → drop at s ≡ text_of (clock_at s at) ++ drop (at + 15) s
clock-front s at room marks w =
    let e = clock-drop s at in
    clock-sound (drop at s) (omega (arith, length-drop at s)) (sym (marks_drop s at) ∙ marks) (subst Twos e w)
    ∙ (λ i. text_of (sym e i) ++ drop-drop 15 at s i)

-- one behind the other
joined : (s : List ℕ) (t : DateTime) {u v w : List ℕ} → s ≡ minus_text t.minus ++ text t.year ++ u → u ≡ clock_text t ++ v → v ≡ fraction_text t.fraction ++ w → w ≡ zone_text t.zone
    → s ≡ written t
joined s t p q r e =
    p ∙ ap (λ (l : List ℕ). minus_text t.minus ++ text t.year ++ l) (q ∙ ap (λ (l : List ℕ). clock_text t ++ l) (r ∙ ap (λ (l : List ℕ). fraction_text t.fraction ++ l) e)) ∙ sym (parts t)

written_so : (s : List ℕ) → Passed s → (t : DateTime) × Formed t × (s ≡ written t)
written_so s p =
    let at : ℕ = (year s).end in
    let y = year-sound s p.right.year in
    let f = fraction_sound s (at + 15) p.right.fraction in
    let z = zone-sound (drop (fraction s).end s) (λ e. p.zoned (zone-drop s (fraction s).end ∙ e)) in
    let c : Clock = clock s in
    let t : DateTime = record { minus = y.minus; year = y.digits; month = c.month; day = c.day; hour = c.hour; minute = c.minute; second = c.second; fraction = f.digits; zone = z.zone } in
    let date = date-sound t (year s) (fraction s) y.number_is f.number_is p.right in
    let time = time-formed t (year s) (fraction s) y.number_is f.number_is p.right in
    let front : drop at s ≡ clock_text t ++ drop (at + 15) s = clock-front s at p.room p.marks (formed_twos t date time) in
    (t, record { year = y.formed; date = date; time = time; fraction = f.formed; zone = z.formed }, joined s t y.front front f.front z.whole)

-- a text is of the form, or is refused with 15
pub instant-sound : (s : List ℕ) → ((t : DateTime) × Formed t × (s ≡ written t)) ⊎ (instant_of s ≡ Err NotOfForm)
instant-sound s = by (passes s)
  where
    by : Passed s ⊎ (instant_of s ≡ Err NotOfForm) → ((t : DateTime) × Formed t × (s ≡ written t)) ⊎ (instant_of s ≡ Err NotOfForm)
    by (inl p) = inl (written_so s p)
    by (inr e) = inr e

-- ---- the text of an instant of its form is read field by field as it was written

-- what is answered where every field is known
by_fields : (s : List ℕ) (y : YearAt) (c : Clock) (f : FractionAt) (z : Result ℕ Refusal) → year_of s ≡ y → ltb (length s) (y.end + 15) ≡ false → marks_at s y.end ≡ true
    → clock_at s y.end ≡ c → fraction_at s (y.end + 15) ≡ f → is_formed y c f ≡ true → zone_at s f.end ≡ z → instant_of s ≡ zoned_of y c f z
unfolding instant_of
by_fields s y c f z year room marks clock fraction right zone =
    ap (instant_from s) year ∙ second (ltb (length s) (y.end + 15)) _ _ room ∙ first (marks_at s y.end) _ _ marks
    ∙ ap (λ (c : Clock). instant_by s y c (fraction_at s (y.end + 15))) clock ∙ ap (instant_by s y c) fraction
    ∙ first (is_formed y c f) _ _ right ∙ ap (zoned_of y c f) zone

zone_starts : (z : Zone) → (is_digit (get_or (zone_text z) 0 0) ≡ false) × (eqb (get_or (zone_text z) 0 0) 46 ≡ false)
zone_starts Zone.missing = (refl, refl)
zone_starts Zone.utc = (refl, refl)
zone_starts (Zone.ahead hours minutes) = (refl, refl)
zone_starts (Zone.behind hours minutes) = (refl, refl)

year-length : (minus : Bool) (ds : List ℕ) → length (minus_text minus ++ text ds) ≡ after minus + length ds
year-length true ds = omega (arith, length-map ds (λ (d : ℕ). 48 + d))
year-length false ds = omega (arith, length-map ds (λ (d : ℕ). 48 + d))

module _ (t : DateTime) (f : Formed t) where
  abbrev at : ℕ
  at = after t.minus + length t.year

  abbrev pub year_read : YearAt
  year_read = year_is t.minus true t.year (after t.minus)

  abbrev pub fraction_read : FractionAt
  fraction_read = fraction_is true t.fraction (at + 15 + length (fraction_text t.fraction))

  abbrev behind : List ℕ
  behind = fraction_text t.fraction ++ zone_text t.zone

  from-clock : drop at (written t) ≡ clock_text t ++ behind
  from-clock = ap (drop at) (parts t) ∙ drop_at (minus_text t.minus ++ text t.year) (clock_text t ++ behind) at (year-length t.minus t.year)

  from-fraction : drop (at + 15) (written t) ≡ behind
  from-fraction = sym (drop-drop 15 at (written t)) ∙ ap (drop 15) from-clock

  from-zone : drop fraction_read.end (written t) ≡ zone_text t.zone
  from-zone =
      sym (drop-drop (length (fraction_text t.fraction)) (at + 15) (written t)) ∙ ap (drop (length (fraction_text t.fraction))) from-fraction
      ∙ drop-append_seam (fraction_text t.fraction) (zone_text t.zone)

  room : ltb (length (written t)) (at + 15) ≡ false
  room =
      let a = ap length (parts t) in
      let b = length-append (minus_text t.minus ++ text t.year) (clock_text t ++ behind) in
      let c = year-length t.minus t.year in
      le-ltb (length (written t)) (at + 15) (omega arith)

  pub instant-read : instant_of (written t) ≡ zoned_of year_read (clock_of t) fraction_read (zone_of t.zone)
  instant-read =
      let starts = zone_starts t.zone in
      by_fields (written t) year_read (clock_of t) fraction_read (zone_of t.zone) (ap year_of (parts t) ∙ year-read t.minus t.year (clock_text t ++ behind) f.year refl) room
      (marks_drop (written t) at ∙ ap (λ (u : List ℕ). marks_at u 0) from-clock ∙ marks_read (clock_of t) behind)
      (clock-drop (written t) at ∙ ap (λ (u : List ℕ). clock_at u 0) from-clock ∙ clock-read (clock_of t) behind (formed_twos t f.date f.time))
      (fraction-read (written t) (at + 15) t.fraction (zone_text t.zone) from-fraction f.fraction starts.0 starts.1)
      (form-read t year_read fraction_read refl refl refl refl f.date f.time)
      (zone-drop (written t) fraction_read.end ∙ ap (λ (u : List ℕ). zone_at u 0) from-zone ∙ zone-read t.zone f.zone)
