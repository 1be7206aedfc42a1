-- The year: a minus sign or none, and digits.
use mathlib.Core.Path.{◌≡◌, refl, sym, ap, ◌∙◌}
use mathlib.Core.Bool.{Bool, true, false}
use mathlib.Core.List.{List, [], ◌∷◌, ◌++◌, append_assoc}
use mathlib.Core.Logic.{inl, inr}
use Prim.Native.Nat.{ℕ, ◌+◌, ◌-◌, ◌≤◌, ◌<◌}
use native.Mathlib.Omega.{arith}
use lib.Dec.{eqb, leb}
use lib.ListN.{length, drop, get_or}
use lib.Seq.{drop-drop}
use borrow.Author.Tests.{eq-eqb, ne_eqb, eqb-true, eqb-false, le-leb, leb-true, leb-false}
use Rattle.wire.specs.Bytes.{if}
use Rattle.sedna_digits.specs.Digits.{is_digit, run, kept}
use Rattle.sedna_digits.specs.Numbers.{number, AreDigits, text}
use Rattle.sedna_digits.proofs.Runs.{run-digits, run-front, run-text}
use Rattle.sedna_digits.proofs.TwoDigits.{byte-front}
use Rattle.sedna_instant.specs.DateTimes.{YearAt, year_from, year_of}
use Rattle.sedna_value_laws.specs.DateTimeTexts.{FormedYear, minus_text}
use Rattle.sedna_value_laws.proofs.DateTimesPlaces.{by_test, at_front}

ne_below : (a b : ℕ) → a ≤ b → (b ≡ a → ⊥) → a < b
ne_below a b h n = by_test (leb b a) (λ e. absurd (n (omega (arith, leb-true b a e)))) (leb-false b a)

-- four digits, or more where the first is not 0
abbrev right_year : ℕ → ℕ → Bool
right_year first count = if (eqb first 48) (eqb count 4) (leb 4 count)

-- what is read of a year whose digits start at `at`
abbrev pub year_is : Bool → Bool → List ℕ → ℕ → YearAt
year_is minus formed ds at = record { minus = minus; formed = formed; number = kept (number ds); end = at + length ds }

year-from : (s : List ℕ) (minus : Bool) (at : ℕ) → year_from s minus at ≡ year_is minus (right_year (get_or s at 0) (length (run (drop at s)))) (run (drop at s)) at
year-from s minus at =
    let e : at + length (run (drop at s)) - at ≡ length (run (drop at s)) = omega arith in
    simp e

first-digit : (ds rest : List ℕ) → 0 < length ds → get_or (text ds ++ rest) 0 0 ≡ 48 + get_or ds 0 0
first-digit [] rest h = absurd (omega arith)
first-digit (d ∷ ds) rest h = refl

formed-year : (first : ℕ) (ds : List ℕ) → AreDigits ds → (0 < length ds → first ≡ 48 + get_or ds 0 0) → right_year first (length ds) ≡ true → FormedYear ds
formed-year first ds h f = by (eqb first 48) refl
  where
    by : (t : Bool) → eqb first 48 ≡ t → if t (eqb (length ds) 4) (leb 4 (length ds)) ≡ true → FormedYear ds
    by true e g = (h, inl (eqb-true (length ds) 4 g))
    by false e g =
        let k = leb-true 4 (length ds) g in
        by_test (eqb (length ds) 4) (λ l. (h, inl (eqb-true (length ds) 4 l))) λ l.
        let m : 4 < length ds = ne_below 4 (length ds) k (eqb-false (length ds) 4 l) in
        let q = f (omega arith) in
        (h, inr (m, ne_below 0 (get_or ds 0 0) (omega arith) λ z. eqb-false first 48 e (omega arith)))

right-year : (first : ℕ) (ds : List ℕ) → FormedYear ds → first ≡ 48 + get_or ds 0 0 → right_year first (length ds) ≡ true
right-year first ds (h, inl l) e = by (eqb first 48)
  where
    by : (t : Bool) → if t (eqb (length ds) 4) (leb 4 (length ds)) ≡ true
    by true = eq-eqb (length ds) 4 l
    by false = le-leb 4 (length ds) (omega arith)
right-year first ds (h, inr l) e = simp (ne_eqb first 48 (λ z. omega arith), le-leb 4 (length ds) (omega arith))

-- where its digits start
abbrev pub after : Bool → ℕ
after t = if t 1 0

year_of_lem : (s : List ℕ) (t : Bool) → eqb (get_or s 0 0) 45 ≡ t
    → year_of s ≡ year_is t (right_year (get_or s (after t) 0) (length (run (drop (after t) s)))) (run (drop (after t) s)) (after t)
unfolding year_of
year_of_lem s t e = ap (λ (b : Bool). year_from s b (after b)) e ∙ year-from s t (after t)

-- a year that is right is a sign and digits, ahead of the rest
pub record YearRead (s : List ℕ) : Type 0 where
  pub minus : Bool
  pub digits : List ℕ
  pub formed : FormedYear digits
  pub front : s ≡ minus_text minus ++ text digits ++ drop (year_of s).end s
  pub number_is : (year_of s).number ≡ kept (number digits)

year-at : (s : List ℕ) (at : ℕ) → 0 < length (run (drop at s)) → get_or s at 0 ≡ 48 + get_or (run (drop at s)) 0 0
year-at s at h = at_front s at ∙ ap (λ (l : List ℕ). get_or l 0 0) (run-front (drop at s)) ∙ first-digit (run (drop at s)) (drop (length (run (drop at s))) (drop at s)) h

minus-front : (s : List ℕ) (t : Bool) → eqb (get_or s 0 0) 45 ≡ t → s ≡ minus_text t ++ drop (after t) s
minus-front s true e = byte-front s 0 44 (eqb-true (get_or s 0 0) 45 e)
minus-front s false e = refl

pub year-sound : (s : List ℕ) → (year_of s).formed ≡ true → YearRead s
year-sound s h = by (eqb (get_or s 0 0) 45) refl
  where
    by : (t : Bool) → eqb (get_or s 0 0) 45 ≡ t → YearRead s
    by t e =
        let at : ℕ = after t in
        let u : List ℕ = drop at s in
        let ds : List ℕ = run u in
        let y = year_of_lem s t e in
        let rest-is : drop (length ds) u ≡ drop (year_of s).end s = drop-drop (length ds) at s ∙ ap (λ (y : YearAt). drop y.end s) (sym y) in
        record {
          minus = t;
          digits = ds;
          formed = formed-year (get_or s at 0) ds (run-digits u) (year-at s at) (ap (λ (y : YearAt). y.formed) (sym y) ∙ h);
          front = minus-front s t e ∙ ap (λ (l : List ℕ). minus_text t ++ l)
              (run-front u) ∙ sym (append_assoc (minus_text t) (text ds) (drop (length ds) u)) ∙ ap (λ (l : List ℕ). minus_text t ++ text ds ++ l) rest-is;
          number_is = ap (λ (y : YearAt). y.number) y;
        }

some-digit : (ds : List ℕ) → FormedYear ds → 0 < length ds
some-digit ds (h, inl l) = omega arith
some-digit ds (h, inr l) = omega arith

-- a year that is formed is read as it is
pub year-read : (minus : Bool) (ds rest : List ℕ) → FormedYear ds → is_digit (get_or rest 0 0) ≡ false
    → year_of (minus_text minus ++ text ds ++ rest) ≡ year_is minus true ds (after minus)
year-read minus ds rest f n = by minus
  where
    some : 0 < length ds
    some = some-digit ds f

    from : (s : List ℕ) (t : Bool) → eqb (get_or s 0 0) 45 ≡ t → drop (after t) s ≡ text ds ++ rest → year_of s ≡ year_is t true ds (after t)
    from s t e q =
        let at : ℕ = after t in
        let r : run (drop at s) ≡ ds = ap run q ∙ run-text ds rest f.0 n in
        let first : get_or s at 0 ≡ 48 + get_or ds 0 0 = at_front s at ∙ ap (λ (l : List ℕ). get_or l 0 0) q ∙ first-digit ds rest some in
        year_of_lem s t e ∙ ap (λ (l : List ℕ). year_is t (right_year (get_or s at 0) (length l)) l at) r ∙ ap (λ (b : Bool). year_is t b ds at) (right-year (get_or s at 0) ds f first)

    by : (t : Bool) → year_of (minus_text t ++ text ds ++ rest) ≡ year_is t true ds (after t)
    by true = from (45 ∷ (text ds ++ rest)) true refl refl
    by false = from (text ds ++ rest) false (ne_eqb (get_or (text ds ++ rest) 0 0) 45 λ z. omega (arith, first-digit ds rest some)) refl
