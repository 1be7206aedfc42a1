-- An exponent, written and read.
use mathlib.Core.Bool.{true, false}
use mathlib.Core.List.{List, [], ◌∷◌, ◌++◌, append_assoc, append-nil}
use mathlib.Core.Logic.{◌⊎◌, inl, inr}
use mathlib.Core.Path.{◌≡◌, refl, ap, ◌∙◌}
use Prim.Native.Nat.{ℕ, zero, suc, ◌+◌, ◌<◌}
use native.Mathlib.Nat.{add-zero}
use native.Mathlib.Omega.{arith}
use lib.Dec.{eqb}
use lib.ListN.{length, drop, get_or, length-append, length-drop, drop_of_length-le}
use borrow.Author.Tests.{eq-eqb, ne_eqb, eqb-true, eqb-false}
use Rattle.wire.specs.Bytes.{if}
use Rattle.sedna_digits.specs.Numbers.{AreDigits, text}
use Rattle.sedna_digits.specs.Digits.{run, behind_sign}
use Rattle.sedna_digits.proofs.Runs.{run-digits, run-front}
use Rattle.sedna_value.specs.Doubles.{exponent_at}
use Rattle.sedna_value_laws.specs.Signs.{Sign, sign_text}
use Rattle.wire.proofs.Branches.{both, neither, one_of}
use Rattle.sedna_value_laws.proofs.Decimals.{length-text, digits_forth}
use Rattle.sedna_value_laws.proofs.Signs.{text-no-sign, at-end, byte-there, sign_forth, sign_back}

-- E or e
abbrev pub Letter : ℕ → Type 0
Letter b = (b ≡ 69) ⊎ (b ≡ 101)

pub exponent_forth : (front : List ℕ) (b : ℕ) (sign : Sign) (ds : List ℕ) (at : ℕ) → at ≡ length front → Letter b → 0 < length ds → AreDigits ds
    → exponent_at (front ++ (b ∷ (sign_text sign ++ text ds))) at ≡ true
unfolding exponent_at
exponent_forth front b sign ds at h letter some ok =
    let s : List ℕ = front ++ (b ∷ (sign_text sign ++ text ds)) in
    let start : ℕ = at + 1 + length (sign_text sign) in
    let after-b : (front ++ (b ∷ [])) ++ (sign_text sign ++ text ds) ≡ s = simp append_assoc in
    let after-sign : (front ++ (b ∷ sign_text sign)) ++ (text ds ++ []) ≡ s = simp (append_assoc, append-nil) in
    let signed : behind_sign s (at + 1) ≡ start =
    rw (← after-b) (sign_forth (front ++ (b ∷ [])) sign (text ds) (at + 1) (simp length-append (omega arith)) (text-no-sign ds)) in
    let digits : run (drop start s) ≡ ds =
    rw (← after-sign) (digits_forth (front ++ (b ∷ sign_text sign)) ds [] start (simp length-append (omega arith)) ok refl) in
    let whole : start + length ds ≡ length s = simp length-append (omega (arith, length-text ds)) in
    rw (at-end front (b ∷ (sign_text sign ++ text ds)) at h, signed, digits, ne_eqb (start + length ds) start (omega arith), eq-eqb (start + length ds) (length s) whole)
    (named letter)
  where
    named : Letter b → if (if (eqb b 69) true (eqb b 101)) true false ≡ true
    named (inl e) = rw e
    named (inr e) = rw e

-- what was read as an exponent is one, and the text ends with it
pub record Exponential (s : List ℕ) : Type 0 where
  pub letter : ℕ
  pub sign : Sign
  pub ds : List ℕ
  pub named : Letter letter
  pub stands : s ≡ letter ∷ (sign_text sign ++ text ds)
  pub some : 0 < length ds
  pub ok : AreDigits ds

letter_of : (b : ℕ) → if (eqb b 69) true (eqb b 101) ≡ true → Letter b
letter_of b e = by (one_of (eqb b 69) (eqb b 101) e)
  where
    by : (eqb b 69 ≡ true) ⊎ (eqb b 101 ≡ true) → Letter b
    by (inl f) = inl (eqb-true b 69 f)
    by (inr f) = inr (eqb-true b 101 f)

letter_above : (b : ℕ) → Letter b → 0 < b
letter_above b (inl e) = omega arith
letter_above b (inr e) = omega arith

pub exponent_back : (s : List ℕ) (at : ℕ) → exponent_at s at ≡ true → Exponential (drop at s)
unfolding exponent_at
exponent_back s at e =
    let b : ℕ = get_or s at 0 in
    let start : ℕ = behind_sign s (at + 1) in
    let ds : List ℕ = run (drop start s) in
    let end : ℕ = start + length ds in
    let t = (both (if (eqb b 69) true (eqb b 101)) (if (eqb end start) false (eqb end (length s)))).0 e in
    let u = neither (eqb end start) (eqb end (length s)) t.1 in
    let letter : Letter b = letter_of b t.0 in
    let signed = sign_back s (at + 1) in
    let ends : end ≡ length s = eqb-true end (length s) u.1 in
    let nothing : drop (length ds) (drop start s) ≡ [] = drop_of_length-le (drop start s) {i = length ds} (omega (arith, length-drop start s)) in
    let digits : drop start s ≡ text ds = run-front (drop start s) ∙ ap (λ (l : List ℕ). text ds ++ l) nothing ∙ append-nil (text ds) in
    record {
      letter = b;
      sign = signed.sign;
      ds = ds;
      named = letter;
      stands = byte-there s at b (letter_above b letter) refl ∙ ap (λ (l : List ℕ). b ∷ l) (signed.stands ∙ ap (λ (l : List ℕ). sign_text signed.sign ++ l) digits);
      some = some (length ds) (eqb-false end start u.0);
      ok = run-digits (drop start s);
    }
  where
    some : (n : ℕ) → (behind_sign s (at + 1) + n ≡ behind_sign s (at + 1) → ⊥) → 0 < n
    some zero k = absurd (k (add-zero _))
    some (suc n) k = omega arith
