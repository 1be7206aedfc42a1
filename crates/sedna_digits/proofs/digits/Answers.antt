use mathlib.Core.Bool.{Bool, true, false}
use mathlib.Core.List.{List}
use mathlib.Core.Path.{◌≡◌, refl, sym, ap, ◌∙◌}
use Prim.Native.Nat.{ℕ, ◌+◌, ◌-◌, ◌≤◌, ◌<◌}
use native.Mathlib.Omega.{arith}
use lib.Dec.{leb}
use lib.ListN.{length, drop, get_or, length-drop}
use lib.Seq.{get_or-drop}
use Rattle.std.proofs.lemmas.Grind.{common_steps}
use Rattle.std.specs.Char.{is_ascii_digit}
use Rattle.sedna_digits.specs.Digits.{is_digit}
use Rattle.sedna_digits.proofs.TwoDigits.{digit-byte}
use Rattle.sedna_digits.proofs.Walks.{walk_start, walk_on, walk_none, walk_end}
use Rattle.sedna_digits.proofs.digits.Goals as goal

-- std's test for a digit is the one of a run
tested : (b : ℕ) → is_ascii_digit b ≡ is_digit b
tested b = by (leb 48 b) refl
  where
    by : (t : Bool) → leb 48 b ≡ t → is_ascii_digit b ≡ is_digit b
    by true e = rw e
    by false e = rw e

-- what stands ahead from `at` on, at j: its byte, and how far it reaches
module _ (ahead s : List ℕ) (at end j : ℕ) (a : ahead ≡ drop at s) (e : end ≡ at + j) where
  byte : get_or ahead j 0 ≡ get_or s end 0
  byte = ap (λ (l : List ℕ). get_or l j 0) a ∙ get_or-drop at s j 0 ∙ ap (λ (n : ℕ). get_or s n 0) (sym e)

  within : j < length ahead → end < length s
  within h = omega (arith, ap length a, length-drop at s)

  past : length ahead ≤ j → length s ≤ end
  past h = omega (arith, ap length a, length-drop at s)

  digit_here : {t : Bool} → t ≡ is_ascii_digit (get_or ahead j 0) → t ≡ true → (48 ≤ get_or s end 0) × (get_or s end 0 ≤ 57)
  digit_here p q = digit-byte (get_or s end 0) (ap is_digit (sym byte) ∙ sym (tested (get_or ahead j 0)) ∙ sym p ∙ q)

  none_here : {t : Bool} → t ≡ is_ascii_digit (get_or ahead j 0) → t ≡ false → is_digit (get_or s end 0) ≡ false
  none_here p q = ap is_digit (sym byte) ∙ sym (tested (get_or ahead j 0)) ∙ sym p ∙ q

pub loop-b-init : goal.loop-b-init
loop-b-init c = record { ahead = grind (arith, common_steps); end_is = omega arith; walked = walk_start c.args.s.now c.args.at }

pub overflow_add-run : goal.overflow_add-run
overflow_add-run c = let i = c.loop-b.invariant in omega (arith, within _ _ _ _ _ i.ahead i.end_is c.loop-b-test.true)

pub loop-b-preserved : goal.loop-b-preserved
loop-b-preserved c =
    let i = c.loop-b.invariant in
    let h = digit_here _ _ _ _ _ i.ahead i.end_is c.is_ascii_digit.ensures.value c.if-not-is_ascii_digit.false in
    record {
      ahead = i.ahead;
      end_is = omega arith;
      walked = walk_on i.walked _ _ (within _ _ _ _ _ i.ahead i.end_is c.loop-b-test.true) h.0 h.1
          (c.digit.ensures ∙ ap (λ (n : ℕ). n - 48) (byte _ _ _ _ _ i.ahead i.end_is)) c.grow.ensures;
    }

pub returns-after-loop-b : goal.returns-after-loop-b
returns-after-loop-b c = let i = c.loop-b.invariant in walk_end i.walked (past _ _ _ _ _ i.ahead i.end_is c.loop-b-test.false)

pub returns-then-not-is_ascii_digit : goal.returns-then-not-is_ascii_digit
returns-then-not-is_ascii_digit c =
    let i = c.loop-b.invariant in
    walk_none i.walked (within _ _ _ _ _ i.ahead i.end_is c.loop-b-test.true)
    (none_here _ _ _ _ _ i.ahead i.end_is c.is_ascii_digit.ensures.value c.if-not-is_ascii_digit.true)
