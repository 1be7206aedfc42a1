-- A double's text is read as what it means.
use Rattle.std.specs.Prelude.{Ok, Err}
use mathlib.Core.Bool.{Bool, true, false}
use mathlib.Core.List.{List, [], ◌∷◌, ◌++◌, append_assoc}
use mathlib.Core.Logic.{◌⊎◌, inl, inr}
use mathlib.Core.Path.{◌≡◌, refl, sym, ap, subst, ◌∙◌}
use Prim.Native.Nat.{ℕ, zero, suc, ◌<◌, ◌≤◌}
use native.Mathlib.Nat.{zero-add}
use native.Mathlib.Omega.{arith}
use lib.Dec.{eqb, ltb}
use lib.ListN.{length, drop, get_or}
use lib.Seq.{drop_at}
use borrow.Author.Tests.{ltb-true, ltb-false}
use Rattle.wire.specs.declared.Refusal.TheVariants.{NotOfForm, OutOfRange}
use Rattle.sedna_digits.specs.Numbers.{AreDigits, text}
use Rattle.sedna_digits.specs.Digits.{is_digit, run, behind_sign}
use Rattle.sedna_value.specs.declared.Value.{Value}
use Rattle.sedna_value.specs.declared.Value.TheVariants.{Double}
use Rattle.sedna_value.specs.Doubles.{decimal_at, special_of, exponent_at, decided_of, double_of}
use Rattle.wire.proofs.Branches as Branches
use Rattle.sedna_value_laws.specs.Signs.{Sign, sign_text, is_minus}
use Rattle.sedna_value_laws.specs.DoubleTexts.{Mantissa, mantissa_text, digits, meant, Exponent, exponent_text, DoubleText, written, Formed, Means, Excluded}
use Rattle.sedna_value_laws.specs.Texts.{Kind}
use Rattle.sedna_value_laws.proofs.Reader.{Answer, Reader}
use Rattle.sedna_value_laws.proofs.Decimals.{decimal_of, Stops, Leading, leading}
use Rattle.sedna_value_laws.proofs.Exponents.{Letter, exponent_forth, Exponential, exponent_back}
use Rattle.sedna_value_laws.proofs.Signs.{NoSign, digit-no-sign, starts_minus, sign_forth, Signed, sign_back}
use Rattle.sedna_value_laws.proofs.DoublesParts.{end_of, end_is, no-digits, more, alone, fits, overlong}
use Rattle.sedna_value_laws.proofs.DoublesSpecial.{special_back}

-- a text of its form, or none
abbrev Sound : List ℕ → Type 0
Sound s = ((t : DoubleText) × Formed t × (s ≡ written t)) ⊎ (double_of s ≡ Err NotOfForm)

-- ---- what is not refused with 15 is of its form

module _ (sign : Sign) (d : Mantissa) (rest : List ℕ) (ok : AreDigits (digits d)) (some : 0 < length (digits d)) (s : List ℕ)
    (stands : s ≡ sign_text sign ++ (mantissa_text d ++ rest)) where
  written_so : (e : Exponent) → rest ≡ exponent_text e → Formed (DoubleText.decimal sign d e) → Sound s
  written_so e is formed =
      inl (DoubleText.decimal sign d e, formed, stands ∙ ap (λ (l : List ℕ). sign_text sign ++ (mantissa_text d ++ l)) is ∙ sym (append_assoc (sign_text sign) (mantissa_text d) (exponent_text e)))

  with_exponent : (p : Exponential rest) → Sound s
  with_exponent p = by p.named
    where
      by : Letter p.letter → Sound s
      by (inl e) = written_so (Exponent.upper p.sign p.ds) (rw (← e) p.stands) (some, ok, (p.some, p.ok))
      by (inr e) = written_so (Exponent.lower p.sign p.ds) (rw (← e) p.stands) (some, ok, (p.some, p.ok))

empty : (l : List ℕ) → length l ≡ 0 → l ≡ []
empty [] e = refl
empty (x ∷ l) e = absurd (omega arith)

sound : (s : List ℕ) → Sound s
sound s = by (length (digits d)) refl (length rest) refl
  where
    signed : Signed s 0
    signed = sign_back s 0

    sign : Sign
    sign = signed.sign

    front : Leading (drop (behind_sign s 0) s)
    front = leading (drop (behind_sign s 0) s)

    d : Mantissa
    d = front.decimal

    rest : List ℕ
    rest = front.rest

    stands : s ≡ sign_text sign ++ (mantissa_text d ++ rest)
    stands = signed.stands ∙ ap (λ (l : List ℕ). sign_text sign ++ l) front.stands

    behind : behind_sign s 0 ≡ length (sign_text sign)
    behind = omega (arith, signed.behind)

    rest-is : drop (end_of sign d) s ≡ rest
    rest-is =
        ap (drop (end_of sign d)) (stands ∙ sym (append_assoc (sign_text sign) (mantissa_text d) rest))
        ∙ drop_at (sign_text sign ++ mantissa_text d) rest (end_of sign d) (sym (end_is sign d))

    followed : 0 < length (digits d) → 0 < length rest → (t : Bool) → exponent_at s (end_of sign d) ≡ t → Sound s
    followed some follows true e = with_exponent sign d rest front.ok some s stands (subst Exponential rest-is (exponent_back s (end_of sign d) e))
    followed some follows false e = inr (more sign d rest front.ok front.stops s stands behind some follows ∙ rw e)

    by : (n : ℕ) → length (digits d) ≡ n → (m : ℕ) → length rest ≡ m → Sound s
    by zero none m e = rw (no-digits sign d rest front.ok front.stops s stands behind none) (special_back s)
    by (suc n) some zero e = written_so sign d rest front.ok (omega (arith, some)) s stands Exponent.none (empty rest e) (omega (arith, some), front.ok, tt)
    by (suc n) some (suc m) e = followed (omega (arith, some)) (omega (arith, e)) (exponent_at s (end_of sign d)) refl

-- ---- what is of its form is answered by what it means

decimal-no-sign : (d : Mantissa) (rest : List ℕ) → 0 < length (digits d) → NoSign (get_or (mantissa_text d ++ rest) 0 0)
decimal-no-sign (Mantissa.plain []) rest some = absurd (omega arith)
decimal-no-sign (Mantissa.plain (x ∷ ds)) rest some = digit-no-sign x
decimal-no-sign (Mantissa.pointed [] behind) rest some = record { plus = refl; minus = refl }
decimal-no-sign (Mantissa.pointed (x ∷ before) behind) rest some = digit-no-sign x

-- neither a digit nor a point follows
ends : (d : Mantissa) (rest : List ℕ) → is_digit (get_or rest 0 0) ≡ false → eqb (get_or rest 0 0) 46 ≡ false → Stops d rest
ends (Mantissa.plain ds) rest e f = (e, f)
ends (Mantissa.pointed before behind) rest e f = e

module _ (sign : Sign) (d : Mantissa) (some : 0 < length (digits d)) (ok : AreDigits (digits d)) where
  regroup : (e : Exponent) → written (DoubleText.decimal sign d e) ≡ sign_text sign ++ (mantissa_text d ++ exponent_text e)
  regroup e = append_assoc (sign_text sign) (mantissa_text d) (exponent_text e)

  read-sign : (e : Exponent) → behind_sign (written (DoubleText.decimal sign d e)) 0 ≡ length (sign_text sign)
  read-sign e = rw (regroup e) (sign_forth [] sign (mantissa_text d ++ exponent_text e) 0 refl (decimal-no-sign d (exponent_text e) some) ∙ zero-add _)

  -- digits alone
  decided : double_of (written (DoubleText.decimal sign d Exponent.none)) ≡ decided_of (is_minus sign) (decimal_of (length (sign_text sign)) d)
  decided =
      let s : List ℕ = written (DoubleText.decimal sign d Exponent.none) in
      let minus : eqb (get_or s 0 0) 45 ≡ is_minus sign = rw (regroup Exponent.none) (starts_minus sign (mantissa_text d ++ []) (decimal-no-sign d [] some)) in
      alone sign d [] ok (ends d [] refl refl) s (regroup Exponent.none) (read-sign Exponent.none) some refl
      ∙ ap (λ (t : Bool). decided_of t (decimal_of (length (sign_text sign)) d)) minus

  pub decimal-few : length (digits d) ≤ 15 → double_of (written (DoubleText.decimal sign d Exponent.none)) ≡ Ok (Double (meant sign d))
  decimal-few few = decided ∙ fits sign d (length (sign_text sign)) ok few

  decimal_alone : Answer Kind.double (DoubleText.decimal sign d Exponent.none) (double_of (written (DoubleText.decimal sign d Exponent.none)))
  decimal_alone = by (ltb 15 (length (digits d))) refl
    where
      by : (t : Bool) → ltb 15 (length (digits d)) ≡ t
          → Answer Kind.double (DoubleText.decimal sign d Exponent.none) (double_of (written (DoubleText.decimal sign d Exponent.none)))
      by true e =
          let many : 15 < length (digits d) = ltb-true 15 (length (digits d)) e in
          rw (decided ∙ overlong sign d (length (sign_text sign)) ok many) (Answer.excluded (Excluded.more_digits many))
      by false e =
          let few : length (digits d) ≤ 15 = ltb-false 15 (length (digits d)) e in
          rw (decimal-few few) (Answer.is (Double (meant sign d)) (Means.decimal few refl))

  -- an exponent behind them
  decimal-powered : (e : Exponent) (b : ℕ) (sg : Sign) (ds : List ℕ) → exponent_text e ≡ b ∷ (sign_text sg ++ text ds) → Letter b → Stops d (exponent_text e)
      → 0 < length ds → AreDigits ds → double_of (written (DoubleText.decimal sign d e)) ≡ Err OutOfRange
  decimal-powered e b sg ds is letter stops any fine =
      more sign d (exponent_text e) ok stops (written (DoubleText.decimal sign d e)) (regroup e) (read-sign e) some (rw is (omega arith))
      ∙ rw is (rw (exponent_forth (sign_text sign ++ mantissa_text d) b sg ds (end_of sign d) (end_is sign d) letter any fine))

complete : (t : DoubleText) → Formed t → Answer Kind.double t (double_of (written t))
unfolding double_of decimal_at special_of run behind_sign
complete (DoubleText.decimal sign d Exponent.none) f = decimal_alone sign d f.0 f.1
complete (DoubleText.decimal sign d (Exponent.upper sg ds)) f =
    let e : Exponent = Exponent.upper sg ds in
    rw (decimal-powered sign d f.0 f.1 e 69 sg ds refl (inl refl) (ends d (exponent_text e) refl refl) f.2.0 f.2.1)
    (Answer.excluded (Excluded.powered {e = Exponent.upper sg ds} (λ p. Branches.apart (cc))))
complete (DoubleText.decimal sign d (Exponent.lower sg ds)) f =
    let e : Exponent = Exponent.lower sg ds in
    rw (decimal-powered sign d f.0 f.1 e 101 sg ds refl (inr refl) (ends d (exponent_text e) refl refl) f.2.0 f.2.1)
    (Answer.excluded (Excluded.powered {e = Exponent.lower sg ds} (λ p. Branches.apart (cc))))
complete DoubleText.inf f = Answer.excluded Excluded.inf
complete DoubleText.-inf f = Answer.excluded Excluded.-inf
complete DoubleText.nan f = Answer.excluded Excluded.nan

one_value : (t : DoubleText) (v w : Value) → Means t v → Means t w → v ≡ w
one_value t v w (Means.decimal l e) (Means.decimal m f) = e ∙ sym f

apart : (t : DoubleText) (v : Value) → Means t v → Excluded t → ⊥
apart t v (Means.decimal few e) (Excluded.more_digits many) = omega arith
apart t v (Means.decimal few e) (Excluded.powered n) = n refl

pub double_reader : Reader Kind.double double_of
double_reader = record { sound = sound; complete = complete; one_value = one_value; apart = apart }
