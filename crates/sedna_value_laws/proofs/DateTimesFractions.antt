-- The fraction: a point and digits, or nothing.
use mathlib.Core.Path.{◌≡◌, refl, sym, ap, ◌∙◌}
use mathlib.Core.Bool.{Bool, true, false}
use mathlib.Core.List.{List, [], ◌∷◌, ◌++◌}
use Prim.Native.Nat.{ℕ, suc, ◌+◌, ◌-◌, ◌<◌}
use native.Mathlib.Numerals.{add-one}
use native.Mathlib.Omega.{arith}
use lib.Dec.{eqb, ltb}
use lib.ListN.{length, drop, get_or, length-map}
use lib.Seq.{drop-drop}
use borrow.Author.Tests.{eq-eqb, eqb-true, lt-ltb, ltb-true}
use Rattle.sedna_digits.specs.Digits.{is_digit, run, kept}
use Rattle.sedna_digits.specs.Numbers.{number, AreDigits, text}
use Rattle.sedna_digits.proofs.Runs.{run-digits, run-front, run-text}
use Rattle.sedna_digits.proofs.TwoDigits.{byte-front}
use Rattle.sedna_instant.specs.DateTimes.{FractionAt, fraction_at}
use Rattle.sedna_value_laws.specs.DateTimeTexts.{fraction_text}
use Rattle.sedna_value_laws.proofs.DateTimesPlaces.{at_front}

-- what is read of a fraction
abbrev pub fraction_is : Bool → List ℕ → ℕ → FractionAt
fraction_is formed ds end = record { formed = formed; count = length ds; number = kept (number ds); end = end }

module _ (s : List ℕ) (p : ℕ) where
  pointed : eqb (get_or s p 0) 46 ≡ true → fraction_at s p ≡ fraction_is (ltb 0 (length (run (drop (p + 1) s)))) (run (drop (p + 1) s)) (p + 1 + length (run (drop (p + 1) s)))
  unfolding fraction_at
  pointed e =
      let n : p + 1 + length (run (drop (p + 1) s)) - (p + 1) ≡ length (run (drop (p + 1) s)) = omega arith in
      simp (e, n)

  pointless : eqb (get_or s p 0) 46 ≡ false → fraction_at s p ≡ fraction_is true [] p
  unfolding fraction_at kept number
  pointless e = simp e

  -- a fraction that is right is a point and digits or nothing, ahead of the rest
  pub record FractionRead : Type 0 where
    pub digits : List ℕ
    pub formed : AreDigits digits
    pub front : drop p s ≡ fraction_text digits ++ drop (fraction_at s p).end s
    pub number_is : (fraction_at s p).number ≡ kept (number digits)

  pub fraction_sound : (fraction_at s p).formed ≡ true → FractionRead
  fraction_sound h = by (eqb (get_or s p 0) 46) refl
    where
      some-text : (ds : List ℕ) → 0 < length ds → 46 ∷ text ds ≡ fraction_text ds
      some-text [] h = absurd (omega arith)
      some-text (d ∷ ds) h = refl

      by : (t : Bool) → eqb (get_or s p 0) 46 ≡ t → FractionRead
      by true e =
          let u : List ℕ = drop (p + 1) s in
          let ds : List ℕ = run u in
          let f = pointed e in
          let some : 0 < length ds = ltb-true 0 (length ds) (ap (λ (f : FractionAt). f.formed) (sym f) ∙ h) in
          let rest-is : drop (length ds) u ≡ drop (fraction_at s p).end s = drop-drop (length ds) (p + 1) s ∙ ap (λ (f : FractionAt). drop f.end s) (sym f) in
          record {
            digits = ds;
            formed = run-digits u;
            front = byte-front s p 45 (eqb-true (get_or s p 0) 46 e) ∙ ap (λ (n : ℕ). 46 ∷ drop n s) (sym (add-one p)) ∙ ap (λ (l : List ℕ). 46 ∷ l) (run-front u)
                ∙ ap (λ (l : List ℕ). l ++ drop (length ds) u) (some-text ds some) ∙ ap (λ (l : List ℕ). fraction_text ds ++ l) rest-is;
            number_is = ap (λ (f : FractionAt). f.number) f;
          }
      by false e =
          let f = pointless e in
          record {
            digits = [];
            formed = tt;
            front = ap (λ (f : FractionAt). drop f.end s) (sym f);
            number_is = ap (λ (f : FractionAt). f.number) f;
          }

  -- a fraction that is formed is read as it is, ahead of what is no point and no digit
  pub fraction-read : (ds rest : List ℕ) → drop p s ≡ fraction_text ds ++ rest → AreDigits ds → is_digit (get_or rest 0 0) ≡ false → eqb (get_or rest 0 0) 46 ≡ false
      → fraction_at s p ≡ fraction_is true ds (p + length (fraction_text ds))
  fraction-read [] rest e h n m =
      let z : p ≡ p + 0 = omega arith in
      pointless (ap (λ (n : ℕ). eqb n 46) (at_front s p ∙ ap (λ (l : List ℕ). get_or l 0 0) e) ∙ m) ∙ ap (fraction_is true []) z
  fraction-read (d ∷ ds) rest e h n m =
      let r : run (drop (p + 1) s) ≡ d ∷ ds = ap run (sym (drop-drop 1 p s) ∙ ap (drop 1) e) ∙ run-text (d ∷ ds) rest h n in
      let z : p + 1 + suc (length ds) ≡ p + suc (suc (length (text ds))) = omega (arith, length-map ds (λ (d : ℕ). 48 + d)) in
      pointed (eq-eqb (get_or s p 0) 46 (at_front s p ∙ ap (λ (l : List ℕ). get_or l 0 0) e))
      ∙ ap (λ (l : List ℕ). fraction_is (ltb 0 (length l)) l (p + 1 + length l)) r
      ∙ ap (λ (t : Bool). fraction_is t (d ∷ ds) (p + 1 + suc (length ds))) (lt-ltb 0 (suc (length ds)) (omega arith))
      ∙ ap (fraction_is true (d ∷ ds)) z
