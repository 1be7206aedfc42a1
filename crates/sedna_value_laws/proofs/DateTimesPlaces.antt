-- Month, day and time by their places: what stands at a place of a text stands in front of what is left from there on.
use mathlib.Core.Path.{◌≡◌, refl, sym, ap, ◌∙◌}
use mathlib.Core.Bool.{Bool, true, false}
use mathlib.Core.Logic.{◌⊎◌}
use mathlib.Core.List.{List, [], ◌∷◌, ◌++◌, append_assoc}
use Prim.Native.Nat.{ℕ, ◌+◌, ◌-◌, ◌*◌, ◌/◌, ◌%◌, ◌<◌, zero, suc, ◌≤◌}
use native.Mathlib.Omega.{arith}
use lib.Dec.{eqb, leb}
use lib.ListN.{length, drop, get_or, length-drop, drop_of_length-le}
use lib.Seq.{drop-cons, get_or-drop}
use borrow.Author.Tests.{eq-eqb, ne_eqb, eqb-true, eqb-false, lt-leb, leb-true, leb-false}
use Rattle.wire.specs.Bytes.{if}
use Rattle.wire.proofs.Branches.{both}
use Rattle.sedna_digits.specs.Digits.{is_digit, two_digits_at}
use Rattle.sedna_digits.specs.Numbers.{text}
use Rattle.sedna_digits.proofs.TwoDigits.{digit-byte, digit-text, two_at-drop}
use Rattle.sedna_instant.specs.declared.fields.Clock.{Clock}
use Rattle.sedna_instant.specs.DateTimes.{marks_at, clock_at, offset_at, zone_at}
use Rattle.sedna_value_laws.specs.DateTimeTexts.{DateTime, two_digits, minus_text, clock_text, fraction_text, zone_text, written}

-- ---- tests taken one by one, and numbers of two digits

-- either of two, by a test
pub by_test : {P : Type 0} (t : Bool) → (t ≡ true → P) → (t ≡ false → P) → P
by_test true first second = first refl
by_test false first second = second refl

-- a property of what a test answers
pub of_test : {A : Type 0} (P : A → Type 0) (t : Bool) (a b : A) → (t ≡ true → P a) → (t ≡ false → P b) → P (if t a b)
of_test P true a b first second = first refl
of_test P false a b first second = second refl

-- what a test answers either is r, or something holds
pub unless : {A P : Type 0} (t : Bool) (a b r : A) → (t ≡ true → P ⊎ (a ≡ r)) → (t ≡ false → P ⊎ (b ≡ r)) → P ⊎ (if t a b ≡ r)
unless {P = P} t a b r = of_test (λ x. P ⊎ (x ≡ r)) t a b

-- the branch that a test takes
pub first : {A : Type 0} (t : Bool) (a b : A) → t ≡ true → if t a b ≡ a
first t a b e = rw e

pub second : {A : Type 0} (t : Bool) (a b : A) → t ≡ false → if t a b ≡ b
second t a b e = rw e

-- the number of two bytes, 100 where one is no digit
abbrev pub two_of : ℕ → ℕ → ℕ
two_of a b = if (is_digit a) (if (is_digit b) ((a - 48) * 10 + (b - 48)) 100) 100

-- two digits, written and read
pub two-read : (n : ℕ) → n < 100 → two_of (48 + n / 10) (48 + n % 10) ≡ n
two-read n h =
    let a = digit-text (n / 10) (omega arith) in
    let b = digit-text (n % 10) (omega arith) in
    let c : (48 + n / 10 - 48) * 10 + (48 + n % 10 - 48) ≡ n = omega arith in
    simp (a, b, c)

-- and read, as written
pub two-written : (a b : ℕ) → two_of a b < 100 → (48 + two_of a b / 10 ≡ a) × (48 + two_of a b % 10 ≡ b)
two-written a b = by (is_digit a) refl (is_digit b) refl
  where
    by : (x : Bool) → is_digit a ≡ x → (y : Bool) → is_digit b ≡ y
        → if x (if y ((a - 48) * 10 + (b - 48)) 100) 100 < 100
        → (48 + if x (if y ((a - 48) * 10 + (b - 48)) 100) 100 / 10 ≡ a) × (48 + if x (if y ((a - 48) * 10 + (b - 48)) 100) 100 % 10 ≡ b)
    by true p true q h =
        let d = digit-byte a p in
        let e = digit-byte b q in
        (omega arith, omega arith)
    by true p false q h = absurd (omega arith)
    by false p y q h = absurd (omega arith)

-- ---- what stands at a place of a text stands in front of what is left from there on

module _ (s : List ℕ) (p : ℕ) where
  pub at_front : get_or s p 0 ≡ get_or (drop p s) 0 0
  at_front = let e : p ≡ p + 0 = omega arith in ap (λ (n : ℕ). get_or s n 0) e ∙ sym (get_or-drop p s 0 0)

  at_drop : (k : ℕ) → get_or s (p + k) 0 ≡ get_or (drop p s) k 0
  at_drop k = sym (get_or-drop p s k 0)

  pub marks_drop : marks_at s p ≡ marks_at (drop p s) 0
  unfolding marks_at
  marks_drop = simp (at_front, at_drop 3, at_drop 6, at_drop 9, at_drop 12)

  pub clock-drop : clock_at s p ≡ clock_at (drop p s) 0
  clock-drop = simp (two_at-drop s p 1, two_at-drop s p 4, two_at-drop s p 7, two_at-drop s p 10, two_at-drop s p 13)

  module _ (h : p < length s) where
    sized : p + length (drop p s) ≡ length s
    sized = omega (arith, length-drop p s)

    same_end : (k : ℕ) → eqb (p + k) (length s) ≡ eqb k (length (drop p s))
    same_end k = by (eqb k (length (drop p s))) refl
      where
        by : (t : Bool) → eqb k (length (drop p s)) ≡ t → eqb (p + k) (length s) ≡ t
        by true e = eq-eqb (p + k) (length s) (omega (arith, sized, eqb-true k (length (drop p s)) e))
        by false e = ne_eqb (p + k) (length s) (λ q. eqb-false k (length (drop p s)) e (omega (arith, sized)))

    offset-drop : offset_at s (p + 1) ≡ offset_at (drop p s) 1
    unfolding offset_at
    offset-drop =
        let e : p + 1 + 5 ≡ p + 6 = omega arith in
        let f : p + 1 + 2 ≡ p + 3 = omega arith in
        let g : p + 1 + 3 ≡ p + 4 = omega arith in
        simp (e, f, g, same_end 6, at_drop 3, two_at-drop s p 1, two_at-drop s p 4)

    shift_drop : zone_at s p ≡ zone_at (drop p s) 0
    unfolding zone_at
    shift_drop =
        let e : 1 ≤ length (drop p s) = omega (arith, sized) in
        simp (lt-leb (length s) p h, lt-leb (length (drop p s)) 0 e, at_front, same_end 1, offset-drop)

  pub zone-drop : zone_at s p ≡ zone_at (drop p s) 0
  unfolding zone_at
  zone-drop = by_test (leb (length s) p) (λ e. simp (e, drop_of_length-le s {i = p} (leb-true (length s) p e))) λ e. shift_drop (leb-false (length s) p e)

-- n bytes from k on
abbrev pub bytes : List ℕ → ℕ → ℕ → List ℕ
bytes u k zero = []
bytes u k (suc n) = get_or u k 0 ∷ bytes u (suc k) n

pub byte_by_byte : (u : List ℕ) (k n : ℕ) → k + n ≤ length u → drop k u ≡ bytes u k n ++ drop (k + n) u
byte_by_byte u k zero h = let e : k ≡ k + 0 = omega arith in ap (λ (n : ℕ). drop n u) e
byte_by_byte u k (suc n) h =
    let e : suc k + n ≡ k + suc n = omega arith in
    drop-cons u k 0 (omega arith) ∙ ap (λ (l : List ℕ). get_or u k 0 ∷ l) (byte_by_byte u (suc k) n (omega arith) ∙ ap (λ (m : ℕ). bytes u (suc k) n ++ drop m u) e)

-- a mark, and a number of two digits behind it
pub marked : (u : List ℕ) (k mark : ℕ) → get_or u k 0 ≡ mark → two_of (get_or u (suc k) 0) (get_or u (suc (suc k)) 0) < 100
    → mark ∷ two_digits (two_of (get_or u (suc k) 0) (get_or u (suc (suc k)) 0)) ≡ bytes u k 3
marked u k mark e h = let w = two-written (get_or u (suc k) 0) (get_or u (suc (suc k)) 0) h in λ i. sym e i ∷ w.0 i ∷ w.1 i ∷ []

-- what stands behind each field of an instant's text
pub parts : (t : DateTime) → written t ≡ minus_text t.minus ++ text t.year ++ (clock_text t ++ (fraction_text t.fraction ++ zone_text t.zone))
parts t =
    let a : List ℕ = minus_text t.minus ++ text t.year in
    append_assoc (a ++ clock_text t) (fraction_text t.fraction) (zone_text t.zone) ∙ append_assoc a (clock_text t) (fraction_text t.fraction ++ zone_text t.zone)

-- ---- month, day and time: fifteen bytes

abbrev pub clock_of : DateTime → Clock
clock_of t = record { month = t.month; day = t.day; hour = t.hour; minute = t.minute; second = t.second }

-- each has two digits
pub record Twos (c : Clock) : Type 0 where
  pub month : c.month < 100
  pub day : c.day < 100
  pub hour : c.hour < 100
  pub minute : c.minute < 100
  pub second : c.second < 100

abbrev pub text_of : Clock → List ℕ
text_of c = 45 ∷ two_digits c.month ++ 45 ∷ two_digits c.day ++ 84 ∷ two_digits c.hour ++ 58 ∷ two_digits c.minute ++ 58 ∷ two_digits c.second

pub clock-sound : (u : List ℕ) → 15 ≤ length u → marks_at u 0 ≡ true → Twos (clock_at u 0) → u ≡ text_of (clock_at u 0) ++ drop 15 u
unfolding marks_at two_digits_at
clock-sound u l e w =
    let m = (both (eqb (get_or u 0 0) 45) _).0 e in
    let d = (both (eqb (get_or u 3 0) 45) _).0 m.1 in
    let h = (both (eqb (get_or u 6 0) 84) _).0 d.1 in
    let i = (both (eqb (get_or u 9 0) 58) (eqb (get_or u 12 0) 58)).0 h.1 in
    let month = marked u 0 45 (eqb-true (get_or u 0 0) 45 m.0) w.month in
    let day = marked u 3 45 (eqb-true (get_or u 3 0) 45 d.0) w.day in
    let hour = marked u 6 84 (eqb-true (get_or u 6 0) 84 h.0) w.hour in
    let minute = marked u 9 58 (eqb-true (get_or u 9 0) 58 i.0) w.minute in
    let second = marked u 12 58 (eqb-true (get_or u 12 0) 58 i.1) w.second in
    byte_by_byte u 0 15 l ∙ sym (λ i. month i ++ day i ++ hour i ++ minute i ++ second i ++ drop 15 u)

pub marks_read : (c : Clock) (rest : List ℕ) → marks_at (text_of c ++ rest) 0 ≡ true
unfolding marks_at
marks_read c rest = refl

pub clock-read : (c : Clock) (rest : List ℕ) → Twos c → clock_at (text_of c ++ rest) 0 ≡ c
unfolding two_digits_at
clock-read c rest w = simp (two-read c.month w.month, two-read c.day w.day, two-read c.hour w.hour, two-read c.minute w.minute, two-read c.second w.second)
