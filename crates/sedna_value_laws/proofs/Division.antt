-- A double's answer is one rounded division, and -0 is negative zero.
use Rattle.std.specs.Prelude.{Ok}
use mathlib.Core.Bool.{true, false}
use mathlib.Core.Path.{◌≡◌, sym, ap, ◌∙◌}
use Prim.Native.Nat.{ℕ, ◌^◌, ◌≤◌}
use native.Mathlib.Nat.{zero-mul}
use native.Mathlib.Omega.{arith}
use lib.Dec.{lit<}
use lib.Ieee.{Float, fin, binary64, round, neg}
use lib.Ieee.Scale.{round_same}
use lib.IntN.{pos}
use lib.ListN.{length}
use Rattle.wire.specs.Every.{Every}
use Rattle.sedna_digits.specs.Numbers.{number}
use Rattle.sedna_value.specs.declared.Value.TheVariants.{Double}
use Rattle.sedna_value_laws.specs.Types.{double}
use Rattle.sedna_value.specs.Values.{value_of}
use Rattle.sedna_value_laws.specs.Division.{divided, plainly, Division}
use Rattle.sedna_value_laws.specs.DoubleTexts.{Mantissa, digits, places, written, Formed, negated, meant}
use Rattle.sedna_value_laws.specs.Signs.{Sign, is_minus}
use Rattle.sedna_value_laws.proofs.Decimals.{digits-zero}
use Rattle.sedna_value_laws.proofs.Doubles.{decimal-few}
use Rattle.sedna_value_laws.proofs.Rounding.{rounded, power_above, decimal_rounded}

texts : (sign : Sign) (d : Mantissa) → Formed (plainly sign d) → length (digits d) ≤ 15
    → value_of 1 double (written (plainly sign d)) ≡ Ok (Double (negated (is_minus sign) (divided (number (digits d)) (10 ^ places d))))
unfolding value_of
texts sign d formed few =
    decimal-few sign d formed.0 formed.1 few
    ∙ ap (λ (x : Float). Ok (Double (negated (is_minus sign) x))) (sym (decimal_rounded d formed.1 few).once)

zero_rounded : (k : ℕ) → round binary64 false 0 (10 ^ k) ≡ fin false 0 (pos 0)
unfolding round
zero_rounded k = round_same binary64 false 0 (10 ^ k) 0 1 (power_above k) (lit< tt) (sym (zero-mul (10 ^ k)))

zero-meant : (d : Mantissa) → Every (λ (x : ℕ). x ≡ 0) (digits d) → meant Sign.minus d ≡ fin true 0 (pos 0)
unfolding neg
zero-meant d zeros = rw (digits-zero (digits d) zeros, zero_rounded (places d))

pub division : Division
unfolding value_of
division = record {
  numbers = λ n k h l. rounded n k (omega arith) l;
  texts = texts;
  minus_zero = λ d formed few zeros. decimal-few Sign.minus d formed.0 formed.1 few ∙ ap (λ (x : Float). Ok (Double x)) (zero-meant d zeros);
}
