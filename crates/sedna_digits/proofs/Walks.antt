-- The digits from a place on, counted and kept as they are walked.
use mathlib.Core.Path.{◌≡◌, refl, sym, ap, ◌∙◌}
use mathlib.Core.List.{List, [], ◌∷◌}
use Prim.Native.Nat.{ℕ, suc, ◌+◌, ◌-◌, ◌*◌, ◌^◌, ◌≤◌, ◌<◌}
use native.Mathlib.Nat.{pow-suc}
use native.Mathlib.Numerals.{add-one}
use native.Mathlib.Omega.{arith}
use lib.ListN.{length, drop, get_or, drop_of_length-le}
use lib.Seq.{drop-cons}
use mathlib.Core.Bool.{false}
use borrow.Author.Tests.{le-leb}
use Rattle.sedna_digits.specs.declared.Run.{Run}
use Rattle.sedna_digits.specs.Numbers.{number}
use Rattle.sedna_digits.specs.Digits.{is_digit, run, kept, digits_at}
use Rattle.sedna_digits.specs.inner.Growing.{grown}
use Rattle.sedna_digits.proofs.Kept.{grown-kept}

module _ (s : List ℕ) (i : ℕ) where
  -- by the byte at i, which is a digit, or none
  run_here : i < length s → 48 ≤ get_or s i 0 → get_or s i 0 ≤ 57 → run (drop i s) ≡ (get_or s i 0 - 48) ∷ run (drop (i + 1) s)
  unfolding run
  run_here h a b = rw (add-one, drop-cons s i 0 h) (simp (le-leb _ _ a, le-leb _ _ b))

  run_none : i < length s → is_digit (get_or s i 0) ≡ false → run (drop i s) ≡ []
  unfolding run
  run_none h e = rw (drop-cons s i 0 h, e)

  run_end : length s ≤ i → run (drop i s) ≡ []
  unfolding run
  run_end h = rw (drop_of_length-le s h)

-- where a walk ends that has come to i with n, and the digits ds ahead of it
abbrev to : ℕ → ℕ → List ℕ → Run
to n i ds = record { end = i + length ds; number = kept (n * 10 ^ length ds + number ds) }

-- a walk from `at` has come to i, and has kept k
pub record Walked (s : List ℕ) (at i k : ℕ) : Type 0 where
  pub counted : ℕ
  pub keeps : k ≡ kept counted
  pub goes : digits_at s at ≡ to counted i (run (drop i s))

pub walk_start : (s : List ℕ) (at : ℕ) → Walked s at at 0
unfolding kept
walk_start s at = record { counted = 0; keeps = refl; goes = rw (none (10 ^ length (run (drop at s))) (number (run (drop at s)))) }
  where
    none : (p m : ℕ) → 0 * p + m ≡ m
    none p m = omega arith

to-on : (n i d : ℕ) (ds : List ℕ) → to n i (d ∷ ds) ≡ to (n * 10 + d) (i + 1) ds
unfolding number
to-on n i d ds =
    let e : i + suc (length ds) ≡ i + 1 + length ds = omega arith in
    rw (e, pow-suc 10 (length ds), places (10 ^ length ds) (number ds))
  where
    places : (p m : ℕ) → n * (p * 10) + (d * p + m) ≡ (n * 10 + d) * p + m
    places p m = omega arith

to_end : (n i : ℕ) → to n i [] ≡ record { end = i; number = kept n }
unfolding number
to_end n i =
    let e : i + 0 ≡ i = omega arith in
    let f : n * 1 + 0 ≡ n = omega arith in
    simp (e, f)

module _ {s : List ℕ} {at i k : ℕ} (w : Walked s at i k) where
  pub walk_on : (d g : ℕ) → i < length s → 48 ≤ get_or s i 0 → get_or s i 0 ≤ 57 → d ≡ get_or s i 0 - 48 → g ≡ grown k d → Walked s at (i + 1) g
  walk_on d g h a b p q =
      record {
        counted = w.counted * 10 + d;
        keeps = q ∙ ap (λ (n : ℕ). grown n d) w.keeps ∙ grown-kept w.counted d (omega arith);
        goes = w.goes ∙ ap (to w.counted i) (run_here s i h a b ∙ ap (λ (n : ℕ). n ∷ run (drop (i + 1) s)) (sym p)) ∙ to-on w.counted i d (run (drop (i + 1) s));
      }

  walk_stop : run (drop i s) ≡ [] → record { end = i; number = k } ≡ digits_at s at
  walk_stop e = sym (w.goes ∙ ap (to w.counted i) e ∙ to_end w.counted i ∙ ap (λ (n : ℕ). record { end = i; number = n }) (sym w.keeps))

  pub walk_none : i < length s → is_digit (get_or s i 0) ≡ false → record { end = i; number = k } ≡ digits_at s at
  walk_none h e = walk_stop (run_none s i h e)

  pub walk_end : length s ≤ i → record { end = i; number = k } ≡ digits_at s at
  walk_end h = walk_stop (run_end s i h)
