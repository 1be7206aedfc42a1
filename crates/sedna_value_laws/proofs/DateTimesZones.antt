-- The zone: nothing, Z, or a sign and hours and minutes up to 14:00.
use mathlib.Core.Path.{◌≡◌, refl, sym, ◌∙◌}
use mathlib.Core.Bool.{Bool, true, false}
use mathlib.Core.List.{List, [], ◌∷◌, ◌++◌}
use mathlib.Core.Logic.{◌⊎◌, inl, inr}
use Prim.Native.Nat.{ℕ, ◌+◌, ◌-◌, ◌*◌, ◌≤◌}
use native.Mathlib.Omega.{arith}
use lib.Dec.{eqb, leb, ltb}
use lib.ListN.{length, drop, get_or, drop_of_length-le}
use borrow.Author.Tests.{eqb-true, leb-true, le-ltb, ltb-false}
use Rattle.wire.specs.Bytes.{if}
use Rattle.sedna_digits.specs.Digits.{two_digits_at}
use Rattle.sedna_instant.specs.DateTimes.{offset_at, zone_at}
use Rattle.std.specs.Prelude.{Result, Ok, Err}
use Rattle.wire.specs.declared.Refusal.{Refusal}
use Rattle.wire.specs.declared.Refusal.TheVariants.{NotOfForm, OutOfRange}
use Rattle.sedna_value_laws.specs.DateTimeTexts.{Zone, FormedZone, two_digits, zone_text}
use Rattle.sedna_value_laws.proofs.DateTimesPlaces.{unless, two-read, byte_by_byte, marked}

-- a zone that is right, and nothing behind it
pub record ZoneRead (u : List ℕ) : Type 0 where
  pub zone : Zone
  pub formed : FormedZone zone
  pub whole : u ≡ zone_text zone

below_first : (t : Bool) (a : ℕ) → if t a 841 ≤ 840 → (t ≡ true) × (a ≤ 840)
below_first true a h = (refl, h)
below_first false a h = absurd (omega arith)

below_second : (t : Bool) (a : ℕ) → if t 841 a ≤ 840 → (t ≡ false) × (a ≤ 840)
below_second true a h = absurd (omega arith)
below_second false a h = (refl, h)

-- hours and minutes behind a sign, with which the text ends
record OffsetRead (u : List ℕ) (hours minutes : ℕ) : Type 0 where
  formed : (minutes ≤ 59) × (hours * 60 + minutes ≤ 840)
  whole : (mark : ℕ) → get_or u 0 0 ≡ mark → u ≡ mark ∷ two_digits hours ++ 58 ∷ two_digits minutes

offset-sound : (u : List ℕ) → offset_at u 1 ≤ 840 → OffsetRead u (two_digits_at u 1) (two_digits_at u 4)
unfolding offset_at two_digits_at
offset-sound u h =
    let a = below_first (eqb 6 (length u)) _ h in
    let b = below_first (eqb (get_or u 3 0) 58) _ a.1 in
    let c = below_second (ltb 59 (two_digits_at u 4)) _ b.1 in
    let d = below_second (ltb 14 (two_digits_at u 1)) _ c.1 in
    let e = below_second (ltb 840 (two_digits_at u 1 * 60 + two_digits_at u 4)) _ d.1 in
    let size = eqb-true 6 (length u) a.0 in
    let hours = ltb-false 14 (two_digits_at u 1) d.0 in
    let minutes = ltb-false 59 (two_digits_at u 4) c.0 in
    record {
      formed = (minutes, e.1);
      whole = λ mark m.
          let front = marked u 0 mark m (omega arith) in
          let behind = marked u 3 58 (eqb-true (get_or u 3 0) 58 b.0) (omega arith) in
          let last : drop 6 u ≡ [] = drop_of_length-le u {i = 6} (omega arith) in
          byte_by_byte u 0 6 (omega arith) ∙ sym (λ i. front i ++ behind i ++ sym last i);
    }

zone_unless_malformed : (u : List ℕ) → ZoneRead u ⊎ (zone_at u 0 ≡ Err NotOfForm)
unfolding zone_at
zone_unless_malformed u =
    unless (leb (length u) 0) _ _ _ (λ e. inl (none (leb-true (length u) 0 e))) λ e.
    unless (eqb (get_or u 0 0) 90) _ _ _ (λ z. unless (eqb 1 (length u)) _ _ _ (λ l. inl (utc (eqb-true (get_or u 0 0) 90 z) (eqb-true 1 (length u) l))) (λ l. inr refl)) λ z.
    unless (ltb 840 (offset_at u 1)) _ _ _ (λ o. inr refl) λ o.
    let f = offset-sound u (ltb-false 840 (offset_at u 1) o) in
    unless (eqb (get_or u 0 0) 43) _ _ _ (λ p. inl (record { zone = Zone.ahead (two_digits_at u 1) (two_digits_at u 4); formed = f.formed; whole = f.whole 43 (eqb-true (get_or u 0 0) 43 p) })) λ p.
    unless (eqb (get_or u 0 0) 45) _ _ _ (λ m. inl (record {
      zone = Zone.behind (two_digits_at u 1)
          (two_digits_at u 4);
      formed = f.formed;
      whole = f.whole 45 (eqb-true (get_or u 0 0) 45 m);
    })) λ m. inr refl
  where
    none : length u ≤ 0 → ZoneRead u
    none h = record { zone = Zone.missing; formed = tt; whole = drop_of_length-le u {i = 0} h }

    utc : get_or u 0 0 ≡ 90 → 1 ≡ length u → ZoneRead u
    utc z l = record { zone = Zone.utc; formed = tt; whole = byte_by_byte u 0 1 (omega arith) ∙ (λ i. z i ∷ drop_of_length-le u {i = 1} (omega arith) i) }

pub zone-sound : (u : List ℕ) → (zone_at u 0 ≡ Err NotOfForm → ⊥) → ZoneRead u
zone-sound u n = by (zone_unless_malformed u)
  where
    by : ZoneRead u ⊎ (zone_at u 0 ≡ Err NotOfForm) → ZoneRead u
    by (inl z) = z
    by (inr e) = absurd (n e)

-- what is read of a zone
abbrev pub zone_of : Zone → Result ℕ Refusal
zone_of Zone.missing = Err OutOfRange
zone_of Zone.utc = Ok 86400
zone_of (Zone.ahead hours minutes) = Ok (86400 - (hours * 60 + minutes) * 60)
zone_of (Zone.behind hours minutes) = Ok (86400 + (hours * 60 + minutes) * 60)

offset_read : (mark hours minutes : ℕ) → minutes ≤ 59 → hours * 60 + minutes ≤ 840 → offset_at (mark ∷ two_digits hours ++ 58 ∷ two_digits minutes) 1 ≡ hours * 60 + minutes
unfolding offset_at two_digits_at
offset_read mark hours minutes m o =
    simp (two-read hours (omega arith), two-read minutes (omega arith), le-ltb 59 minutes m, le-ltb 14 hours (omega arith), le-ltb 840 (hours * 60 + minutes) o)

pub zone-read : (z : Zone) → FormedZone z → zone_at (zone_text z) 0 ≡ zone_of z
unfolding zone_at
zone-read Zone.missing f = refl
zone-read Zone.utc f = refl
zone-read (Zone.ahead hours minutes) f = rw (offset_read 43 hours minutes f.0 f.1, le-ltb 840 (hours * 60 + minutes) f.1)
zone-read (Zone.behind hours minutes) f = rw (offset_read 45 hours minutes f.0 f.1, le-ltb 840 (hours * 60 + minutes) f.1)
