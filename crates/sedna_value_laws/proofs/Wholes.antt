-- A whole number's text is read as what it means.
use Rattle.std.specs.Prelude.{Ok, Err, Option, Some, None}
use mathlib.Core.Bool.{Bool, true, false, not}
use mathlib.Core.Path.{◌≡◌, refl, sym, ap, subst, ◌∙◌}
use mathlib.Core.List.{List, [], ◌++◌, append-nil}
use mathlib.Core.Logic.{◌⊎◌, inl, inr}
use mathlib.Core.Option.{some}
use Prim.Native.Nat.{ℕ, zero, suc, ◌≤◌, ◌<◌, ◌+◌}
use native.Mathlib.Omega.{arith}
use native.Mathlib.Nat.{zero-add}
use lib.Dec.{leb, eqb, leb→le, T, ltb}
use lib.IntN.{ℤ, pos, negsuc}
use lib.Signed.{◌≤ℤ◌, lt_z, lt_z_yes, lt_z_no, clash_ℤ}
use lib.ListN.{length, drop, length-append, drop_of_length-le}
use lib.Seq.{drop-drop}
use borrow.Author.Tests.{le-leb, lt-leb, ne_eqb, leb-true, leb-false, eqb-true, eqb-false, ltb-true, ltb-false}
use Rattle.wire.specs.declared.Refusal.TheVariants.{NotOfForm, OutOfRange}
use Rattle.wire.specs.Bytes.{if}
use Rattle.sedna_digits.specs.Numbers.{signed, number, text}
use Rattle.sedna_digits.specs.Digits.{kept, run, digits_at, behind_sign}
use Rattle.sedna_digits.proofs.Kept.{kept_exact, kept_above}
use Rattle.sedna_digits.proofs.Runs.{run-digits, run-front}
use Rattle.sedna_value.specs.declared.Value.TheVariants.{Whole}
use Rattle.sedna_value.specs.Wholes.{signed_of, least_of, greatest_of, ranged_of, whole_of}
use Rattle.sedna_value.proofs.WholeRuns.{no_digit, more-behind, digits_alone}
use Rattle.sedna_value_laws.specs.Types.{WholeType}
use Rattle.sedna_value_laws.specs.Signs.{sign_text, is_minus}
use Rattle.sedna_value_laws.specs.WholeTexts.{WholeText, written, Formed, meant}
use Rattle.sedna_value_laws.specs.Texts.{Kind, kind_of}
use Rattle.sedna_value_laws.proofs.Reader.{Answer, Reader}
use Rattle.sedna_value_laws.proofs.Signs.{text-no-sign, starts_minus, sign_forth, sign_back}
use Rattle.sedna_value_laws.proofs.Decimals.{length-text, digits_forth}
use Rattle.sedna_value_laws.proofs.Ranges.{within, above_least, below_greatest}

-- ---- a whole number in 64 bits with a sign, by what is kept of its digits' number

-- beyond 64 bits with a sign
abbrev pub Far : ℤ → Type 0
Far z = negsuc 9223372036854775807 ≤ℤ z → z ≤ℤ pos 9223372036854775807 → ⊥

-- the number with its sign, or that it is beyond
pub data Made (minus : Bool) (n : ℕ) : Option ℤ → Type 0 where
  is : Made minus n (Some (signed minus n))
  overflow : Far (signed minus n) → Made minus n None

far : (minus : Bool) (n : ℕ) → 9223372036854775808 < n → Far (signed minus n)
far true zero h from to = omega arith
far true (suc n) h from to = omega (arith, leb→le n 9223372036854775807 from.le)
far false n h from to = omega (arith, leb→le n 9223372036854775807 to.le)

small : (minus : Bool) (n : ℕ) → n ≤ 9223372036854775807 → Made minus n (signed_of minus (kept n))
unfolding signed_of
small minus n h =
    let k : n ≤ 9223372036854775808 = omega arith in
    rw (kept_exact n k, le-leb n 9223372036854775807 h) Made.is

-- 2^63 itself
edge : (minus : Bool) → Made minus 9223372036854775808 (signed_of minus (kept 9223372036854775808))
unfolding signed_of kept
edge true = Made.is
edge false = Made.overflow (λ from to. to.le)

great : (minus : Bool) (n : ℕ) → 9223372036854775808 < n → Made minus n (signed_of minus (kept n))
unfolding signed_of
great minus n h =
    let k = kept_above n h in
    let a : 9223372036854775807 < kept n = omega arith in
    let b : kept n ≡ 9223372036854775808 → ⊥ = λ e. omega arith in
    rw (lt-leb (kept n) 9223372036854775807 a, ne_eqb (kept n) 9223372036854775808 b) (Made.overflow (far minus n h))

pub made_of : (minus : Bool) (n : ℕ) → Made minus n (signed_of minus (kept n))
made_of minus n = by (leb n 9223372036854775807) (eqb n 9223372036854775808) refl refl
  where
    by : (t u : Bool) → leb n 9223372036854775807 ≡ t → eqb n 9223372036854775808 ≡ u → Made minus n (signed_of minus (kept n))
    by true u e f = small minus n (leb-true _ _ e)
    by false true e f = rw (eqb-true n 9223372036854775808 f) (edge minus)
    by false false e f =
        let a : 9223372036854775807 < n = leb-false _ _ e in
        let b : n ≡ 9223372036854775808 → ⊥ = eqb-false _ _ f in
        great minus n (omega arith)

-- ---- a whole number's text is read as what it means

-- a text of its form, or none
abbrev Sound : ℕ → List ℕ → Type 0
Sound kind s = ((t : WholeText) × Formed t × (s ≡ written t)) ⊎ (whole_of kind s ≡ Err NotOfForm)

-- ---- what is not refused with 15 is of its form

sound : (kind : ℕ) (s : List ℕ) → Sound kind s
sound kind s = by (length ds) refl (ltb (at + length ds) (length s)) refl
  where
    at : ℕ
    at = behind_sign s 0

    ds : List ℕ
    ds = run (drop at s)

    written_so : 0 < length ds → length s ≤ at + length ds → Sound kind s
    written_so any end =
        let signed = sign_back s 0 in
        let nothing : drop (length ds) (drop at s) ≡ [] = drop-drop (length ds) at s ∙ drop_of_length-le s end in
        let digits : drop at s ≡ text ds = run-front (drop at s) ∙ ap (λ (l : List ℕ). text ds ++ l) nothing ∙ append-nil (text ds) in
        inl (record { sign = signed.sign; digits = ds }, (any, run-digits (drop at s)), signed.stands ∙ ap (λ (l : List ℕ). sign_text signed.sign ++ l) digits)

    by : (n : ℕ) → length ds ≡ n → (t : Bool) → ltb (at + length ds) (length s) ≡ t → Sound kind s
    by zero e t f = inr (sym (no_digit kind s at (digits_at s at) refl refl (omega (arith, e))))
    by (suc n) e true f = inr (sym (more-behind kind s at (digits_at s at) refl refl (λ g. omega (arith, e, g)) (ltb-true (at + length ds) (length s) f)))
    by (suc n) e false f = written_so (omega (arith, e)) (ltb-false (at + length ds) (length s) f)

-- ---- what is of its form is answered by what it means

read : (kind : ℕ) (t : WholeText) → Formed t → whole_of kind (written t) ≡ ranged_of kind (signed_of (is_minus t.sign) (kept (number t.digits)))
read kind t f =
    let s : List ℕ = written t in
    let at : ℕ = length (sign_text t.sign) in
    let ds : List ℕ = t.digits in
    let starts : behind_sign s 0 ≡ at = sign_forth [] t.sign (text ds) 0 refl (text-no-sign ds) ∙ zero-add at in
    let runs : run (drop at s) ≡ ds = ap (λ (l : List ℕ). run (drop at (sign_text t.sign ++ l))) (sym (append-nil (text ds))) ∙ digits_forth (sign_text t.sign) ds [] at refl f.1 refl in
    let size : length s ≡ at + length ds = length-append (sign_text t.sign) (text ds) ∙ ap (λ (n : ℕ). at + n) (length-text ds) in
    let any : 0 < length ds = f.0 in
    digits_alone kind s at (record { end = at + length ds; number = kept (number ds) }) (sym starts) (rw runs) (λ e. omega arith) (omega arith)
    ∙ rw (starts_minus t.sign (text ds) (text-no-sign ds))

module _ (w : WholeType) (named : kind_of w.type ≡ some (Kind.whole w)) (t : WholeText) where
  -- a number of 64 bits is answered by its type's range
  in_64_bits : Answer (Kind.whole w) t (ranged_of w.type (Some (meant t)))
  in_64_bits = by (lt_z (meant t) (least_of w.type)) (lt_z (greatest_of w.type) (meant t)) refl refl
    where
      by : (low high : Bool) → lt_z (meant t) (least_of w.type) ≡ low → lt_z (greatest_of w.type) (meant t) ≡ high
          → Answer (Kind.whole w) t (if low (Err OutOfRange) (if high (Err OutOfRange) (Ok (Whole (meant t)))))
      by true high e f = Answer.excluded (λ r. clash_ℤ (lt_z_yes (subst T (sym e) tt)) (above_least w named (meant t) r))
      by false true e f = Answer.excluded (λ r. clash_ℤ (lt_z_yes (subst T (sym f) tt)) (below_greatest w named (meant t) r))
      by false false e f =
          Answer.is (Whole (meant t)) (within w named (meant t) (lt_z_no (subst (λ (b : Bool). T (not b)) (sym e) tt)) (lt_z_no (subst (λ (b : Bool). T (not b)) (sym f) tt)), refl)

  answer : (n : Option ℤ) → Made (is_minus t.sign) (number t.digits) n → Answer (Kind.whole w) t (ranged_of w.type n)
  answer n Made.is = in_64_bits
  answer n (Made.overflow far) = Answer.excluded (λ r. far r.from r.to)

  complete : Formed t → Answer (Kind.whole w) t (whole_of w.type (written t))
  complete f = rw (read w.type t f) (answer _ (made_of (is_minus t.sign) (number t.digits)))

pub whole_reader : (w : WholeType) → kind_of w.type ≡ some (Kind.whole w) → Reader (Kind.whole w) (whole_of w.type)
whole_reader w named = record {
  sound = sound w.type;
  complete = complete w named;
  one_value = λ t v u m n. m.1 ∙ sym n.1;
  apart = λ t v m b. b m.0;
}
