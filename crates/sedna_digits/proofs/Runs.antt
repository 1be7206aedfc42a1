-- A run of digits: what stands in front, where it stops, and that the text of digits is read as they are.
use mathlib.Core.Path.{◌≡◌, refl, ap, ◌∙◌}
use mathlib.Core.List.{List, [], ◌∷◌, ◌++◌}
use mathlib.Core.Bool.{Bool, true, false}
use Prim.Native.Nat.{ℕ, ◌+◌, ◌-◌, ◌^◌, ◌≤◌, ◌<◌}
use native.Mathlib.Nat.{pow-le-pow_right}
use native.Mathlib.Omega.{arith}
use lib.ListN.{length, drop, get_or}
use Rattle.wire.specs.Bytes.{if}
use Rattle.sedna_digits.specs.Numbers.{number, AreDigits, text}
use Rattle.sedna_digits.specs.Digits.{is_digit, run, kept}
use Rattle.sedna_digits.proofs.Kept.{kept_exact}
use Rattle.sedna_digits.proofs.Numbers.{number_below}
use Rattle.sedna_digits.proofs.TwoDigits.{digit-byte, digit-text}

pub run-digits : (s : List ℕ) → AreDigits (run s)
unfolding run
run-digits [] = tt
run-digits (b ∷ s) = by (is_digit b) refl (run-digits s)
  where
    by : (t : Bool) → is_digit b ≡ t → AreDigits (run s) → AreDigits (if t ((b - 48) ∷ run s) [])
    by true e h =
        let k = digit-byte b e in
        (omega arith, h)
    by false e h = tt

-- the text is that of the run, and what is behind it
pub run-front : (s : List ℕ) → s ≡ text (run s) ++ drop (length (run s)) s
unfolding run
run-front [] = refl
run-front (b ∷ s) = by (is_digit b) refl (run-front s)
  where
    by : (t : Bool) → is_digit b ≡ t → s ≡ text (run s) ++ drop (length (run s)) s
        → b ∷ s ≡ text (if t ((b - 48) ∷ run s) []) ++ drop (length (if t ((b - 48) ∷ run s) [])) (b ∷ s)
    by true e h =
        let k = digit-byte b e in
        let c : b ≡ 48 + (b - 48) = omega arith in
        ap (λ (x : ℕ). x ∷ s) c ∙ ap (λ (l : List ℕ). (48 + (b - 48)) ∷ l) h
    by false e h = refl

-- the byte behind the run is no digit
pub run-stops : (s : List ℕ) → is_digit (get_or s (length (run s)) 0) ≡ false
unfolding run
run-stops [] = refl
run-stops (b ∷ s) = by (is_digit b) refl (run-stops s)
  where
    by : (t : Bool) → is_digit b ≡ t → is_digit (get_or s (length (run s)) 0) ≡ false → is_digit (get_or (b ∷ s) (length (if t ((b - 48) ∷ run s) [])) 0) ≡ false
    by true e h = h
    by false e h = e

none : (rest : List ℕ) → is_digit (get_or rest 0 0) ≡ false → run rest ≡ []
unfolding run
none [] e = refl
none (b ∷ rest) e = rw e

-- digits, and behind them none, are read as they are
pub run-text : (ds rest : List ℕ) → AreDigits ds → is_digit (get_or rest 0 0) ≡ false → run (text ds ++ rest) ≡ ds
unfolding run
run-text [] rest h e = none rest e
run-text (d ∷ ds) rest h e =
    let c : 48 + d - 48 ≡ d = omega arith in
    rw (digit-text d h.0, c) (ap (λ (l : List ℕ). d ∷ l) (run-text ds rest h.1 e))

-- up to eighteen digits are kept whole
pub kept-digits : (ds : List ℕ) → AreDigits ds → length ds ≤ 18 → kept (number ds) ≡ number ds
kept-digits ds h few =
    let most : 10 ^ length ds ≤ 10 ^ 18 = pow-le-pow_right (omega arith) few in
    kept_exact (number ds) (omega (arith, number_below ds h))

pub run_below : (s : List ℕ) → length (run s) ≤ 18 → kept (number (run s)) < 10 ^ length (run s)
run_below s few = rw (kept-digits (run s) (run-digits s) few) (number_below (run s) (run-digits s))
