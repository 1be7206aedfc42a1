-- An optional sign, written and read.
use mathlib.Core.Bool.{Bool, true, false}
use mathlib.Core.List.{List, [], ◌∷◌, ◌++◌}
use mathlib.Core.Path.{◌≡◌, refl}
use Prim.Native.Nat.{ℕ, zero, suc, ◌+◌, ◌<◌}
use native.Mathlib.Nat.{add-zero}
use native.Mathlib.Numerals.{add-one}
use native.Mathlib.Omega.{arith}
use lib.Dec.{eqb, lit<}
use lib.ListN.{length, drop, get_or}
use lib.Seq.{get_or-append-add}
use borrow.Author.Tests.{ne_eqb, eqb-true}
use Rattle.sedna_digits.specs.Numbers.{text}
use Rattle.sedna_digits.specs.Digits.{behind_sign}
use Rattle.sedna_digits.proofs.TwoDigits.{byte-front}
use Rattle.sedna_value_laws.specs.Signs.{Sign, sign_text, is_minus}

-- a byte that is no sign
pub record NoSign (b : ℕ) : Type 0 where
  pub plus : eqb b 43 ≡ false
  pub minus : eqb b 45 ≡ false

-- a digit's byte is no sign
pub digit-no-sign : (d : ℕ) → NoSign (48 + d)
digit-no-sign d = record { plus = ne_eqb (48 + d) 43 (omega arith); minus = ne_eqb (48 + d) 45 (omega arith) }

pub text-no-sign : (ds : List ℕ) → NoSign (get_or (text ds) 0 0)
text-no-sign [] = record { plus = refl; minus = refl }
text-no-sign (d ∷ ds) = digit-no-sign d

-- a sign is the first byte
pub starts_minus : (sign : Sign) (rest : List ℕ) → NoSign (get_or rest 0 0) → eqb (get_or (sign_text sign ++ rest) 0 0) 45 ≡ is_minus sign
starts_minus Sign.none rest n = n.minus
starts_minus Sign.plus rest n = refl
starts_minus Sign.minus rest n = refl

-- what stands where the front ends
pub at-end : (front s : List ℕ) (at : ℕ) → at ≡ length front → get_or (front ++ s) at 0 ≡ get_or s 0 0
at-end front s at h = rw (h, ← add-zero (length front)) (get_or-append-add front s 0 0)

-- a byte other than 0 that is found somewhere stands there
pub byte-there : (s : List ℕ) (at b : ℕ) → 0 < b → get_or s at 0 ≡ b → drop at s ≡ b ∷ drop (at + 1) s
byte-there s at zero h e = absurd (omega arith)
byte-there s at (suc b) h e = rw add-one (byte-front s at b e)

-- a sign is read where it stands
pub sign_forth : (front : List ℕ) (sign : Sign) (rest : List ℕ) (at : ℕ) → at ≡ length front → NoSign (get_or rest 0 0)
    → behind_sign (front ++ (sign_text sign ++ rest)) at ≡ at + length (sign_text sign)
unfolding behind_sign
sign_forth front Sign.none rest at h n = rw (at-end front rest at h, n.plus, n.minus) (omega arith)
sign_forth front Sign.plus rest at h n = rw (at-end front (43 ∷ rest) at h)
sign_forth front Sign.minus rest at h n = rw (at-end front (45 ∷ rest) at h)

-- whatever stands somewhere, a sign that was read stands in front of what is behind it
pub record Signed (s : List ℕ) (at : ℕ) : Type 0 where
  pub sign : Sign
  pub stands : drop at s ≡ sign_text sign ++ drop (behind_sign s at) s
  pub behind : behind_sign s at ≡ at + length (sign_text sign)
  pub minus : eqb (get_or s at 0) 45 ≡ is_minus sign

pub sign_back : (s : List ℕ) (at : ℕ) → Signed s at
unfolding behind_sign
sign_back s at = by (eqb (get_or s at 0) 43) (eqb (get_or s at 0) 45) refl refl
  where
    by : (plus minus : Bool) → eqb (get_or s at 0) 43 ≡ plus → eqb (get_or s at 0) 45 ≡ minus → Signed s at
    by true true e f = absurd (omega (arith, eqb-true (get_or s at 0) 43 e, eqb-true (get_or s at 0) 45 f))
    by true false e f = record { sign = Sign.plus; stands = rw e (byte-there s at 43 (lit< tt) (eqb-true _ _ e)); behind = rw e; minus = f }
    by false true e f = record { sign = Sign.minus; stands = rw (e, f) (byte-there s at 45 (lit< tt) (eqb-true _ _ f)); behind = rw (e, f); minus = f }
    by false false e f = record { sign = Sign.none; stands = rw (e, f); behind = rw (e, f) (omega arith); minus = f }
