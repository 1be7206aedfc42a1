-- A double's text part by part: what is answered where no digit stands, where more follows the digits, and where they stand alone.
use Rattle.std.specs.Prelude.{Ok, Err}
use mathlib.Core.List.{List, ◌∷◌, ◌++◌}
use mathlib.Core.Path.{◌≡◌, refl, sym, ap}
use Prim.Native.Nat.{ℕ, ◌+◌, ◌^◌, ◌<◌, ◌≤◌}
use native.Mathlib.Omega.{arith}
use lib.Dec.{eqb}
use lib.ListN.{length, get_or, length-append}
use borrow.Author.Tests.{ne_eqb, lt-ltb, le-ltb}
use Rattle.wire.specs.Bytes.{if}
use Rattle.wire.specs.declared.Refusal.TheVariants.{NotOfForm, OutOfRange}
use Rattle.sedna_digits.specs.Numbers.{number, AreDigits, text}
use Rattle.sedna_digits.specs.Digits.{behind_sign}
use Rattle.sedna_digits.proofs.Numbers.{number_append}
use Rattle.sedna_digits.proofs.Runs.{kept-digits}
use Rattle.sedna_value.specs.declared.Value.TheVariants.{Double}
use Rattle.sedna_value.specs.Doubles.{decimal_at, special_of, exponent_at, decided_of, quotient, double_of}
use Rattle.sedna_value_laws.specs.Signs.{Sign, sign_text, is_minus}
use Rattle.sedna_value_laws.specs.DoubleTexts.{Mantissa, mantissa_text, digits, places, meant}
use Rattle.sedna_value_laws.specs.Division.{divided}
use Rattle.sedna_value_laws.proofs.Rounding.{decimal_rounded}
use Rattle.sedna_value_laws.proofs.Decimals.{decimal_of, Stops, length-text, front-digits, back_digits, decimal_forth}

length-decimal : (at : ℕ) (d : Mantissa) → at + length (mantissa_text d) ≡ (decimal_of at d).end
length-decimal at (Mantissa.plain ds) = omega (arith, length-text ds)
length-decimal at (Mantissa.pointed before behind) =
    omega (arith, length-append (text before) (46 ∷ text behind), length-text before, length-text behind)

count-digits : (at : ℕ) (d : Mantissa) → (decimal_of at d).before + (decimal_of at d).behind ≡ length (digits d)
count-digits at (Mantissa.plain ds) = omega arith
count-digits at (Mantissa.pointed before behind) = omega (arith, length-append before behind)

divides : (at : ℕ) (d : Mantissa) → AreDigits (digits d) → length (digits d) ≤ 15 → quotient (decimal_of at d) ≡ divided (number (digits d)) (10 ^ places d)
divides at (Mantissa.plain ds) ok few = ap (λ (n : ℕ). divided n 1) (omega (arith, kept-digits ds ok (omega arith)))
divides at (Mantissa.pointed before behind) ok few =
    let sum : length before + length behind ≤ 15 = omega (arith, length-append before behind) in
    ap (λ (n : ℕ). divided n (10 ^ length behind))
    (rw (kept-digits before (front-digits before behind ok) (omega arith), kept-digits behind (back_digits before behind ok) (omega arith)) (sym (number_append before behind)))

module _ (sign : Sign) (d : Mantissa) (at : ℕ) (ok : AreDigits (digits d)) where
  pub fits : length (digits d) ≤ 15 → decided_of (is_minus sign) (decimal_of at d) ≡ Ok (Double (meant sign d))
  fits few = rw (count-digits at d, le-ltb 15 (length (digits d)) few, divides at d ok few, (decimal_rounded d ok few).once)

  pub overlong : 15 < length (digits d) → decided_of (is_minus sign) (decimal_of at d) ≡ Err OutOfRange
  overlong many = rw (count-digits at d, lt-ltb 15 (length (digits d)) many)

-- where the digits behind a sign end
abbrev pub end_of : Sign → Mantissa → ℕ
end_of sign d = (decimal_of (length (sign_text sign)) d).end

pub end_is : (sign : Sign) (d : Mantissa) → end_of sign d ≡ length (sign_text sign ++ mantissa_text d)
end_is sign d = omega (arith, length-append (sign_text sign) (mantissa_text d), length-decimal (length (sign_text sign)) d)

-- a sign that was read, digits, and what follows them
module _ (sign : Sign) (d : Mantissa) (rest : List ℕ) (ok : AreDigits (digits d)) (stops : Stops d rest) (s : List ℕ)
    (stands : s ≡ sign_text sign ++ (mantissa_text d ++ rest)) (signed : behind_sign s 0 ≡ length (sign_text sign)) where
  found : decimal_at s (behind_sign s 0) ≡ decimal_of (length (sign_text sign)) d
  found = rw (signed, stands) (decimal_forth (sign_text sign) d rest (length (sign_text sign)) refl ok stops)

  long : end_of sign d + length rest ≡ length s
  long = rw stands (simp length-append (omega (arith, length-decimal (length (sign_text sign)) d)))

  pub no-digits : length (digits d) ≡ 0 → double_of s ≡ special_of s
  unfolding double_of
  no-digits none = rw (found, count-digits (length (sign_text sign)) d, none)

  pub more : 0 < length (digits d) → 0 < length rest → double_of s ≡ if (exponent_at s (end_of sign d)) (Err OutOfRange) (Err NotOfForm)
  unfolding double_of
  more some behind =
      rw (found, count-digits (length (sign_text sign)) d, ne_eqb (length (digits d)) 0 (omega arith), lt-ltb (end_of sign d) (length s) (omega (arith, long)))

  pub alone : 0 < length (digits d) → length rest ≡ 0 → double_of s ≡ decided_of (eqb (get_or s 0 0) 45) (decimal_of (length (sign_text sign)) d)
  unfolding double_of
  alone some none =
      rw (found, count-digits (length (sign_text sign)) d, ne_eqb (length (digits d)) 0 (omega arith), le-ltb (end_of sign d) (length s) (omega (arith, long)))
