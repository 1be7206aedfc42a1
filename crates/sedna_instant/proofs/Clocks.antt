-- What stands somewhere, a clock or the offset of a zone, is what stands in front of what is left from there on.
use mathlib.Core.Bool.{Bool, true, false}
use mathlib.Core.List.{List}
use mathlib.Core.Path.{◌≡◌, refl, ap}
use Prim.Native.Nat.{ℕ, ◌+◌, ◌≤◌}
use native.Mathlib.Nat.{add-zero}
use native.Mathlib.Omega.{arith}
use lib.Dec.{eqb, ltb}
use lib.ListN.{length, length-drop, drop, get_or}
use lib.Seq.{get_or-drop}
use borrow.Author.Tests.{eqb-true, eqb-false, eq-eqb, ne_eqb, ltb-true, ltb-false, lt-ltb, le-ltb}
use Rattle.std.specs.Prelude.{None}
use Rattle.wire.specs.Bytes.{if}
use Rattle.sedna_digits.specs.Digits.{two_digits_at}
use Rattle.sedna_digits.proofs.TwoDigits.{two_at-drop}
use Rattle.sedna_instant.specs.declared.fields.Clock.{Clock}
use Rattle.sedna_instant.specs.DateTimes.{marks_at, clock_at, whole_clock, clock_there, offset_at}

room_behind : (s : List ℕ) (at : ℕ) → at ≤ length s → ltb (length (drop at s)) 15 ≡ ltb (length s) (at + 15)
room_behind s at h = by (ltb (length s) (at + 15)) refl
  where
    by : (t : Bool) → ltb (length s) (at + 15) ≡ t → ltb (length (drop at s)) 15 ≡ t
    by true e = lt-ltb _ _ (omega (arith, ltb-true _ _ e, length-drop at s))
    by false e = le-ltb _ _ (omega (arith, ltb-false _ _ e, length-drop at s))

marks_behind : (s : List ℕ) (at : ℕ) → marks_at (drop at s) 0 ≡ marks_at s at
unfolding marks_at
marks_behind s at =
    let behind : (k : ℕ) → get_or (drop at s) k 0 ≡ get_or s (at + k) 0 = λ k. get_or-drop at s k 0 in
    rw (behind 0, behind 3, behind 6, behind 9, behind 12, add-zero) refl

numbers_behind : (s : List ℕ) (at : ℕ) → clock_at (drop at s) 0 ≡ clock_at s at
numbers_behind s at =
    let behind : (k : ℕ) → two_digits_at s (at + k) ≡ two_digits_at (drop at s) k = two_at-drop s at in
    rw (behind 1, behind 4, behind 7, behind 10, behind 13) refl

pub clock_behind : (s : List ℕ) (at : ℕ) → at ≤ length s → clock_there (drop at s) 0 ≡ clock_there s at
clock_behind s at h =
    rw (room_behind s at h, marks_behind s at)
    (ap (λ (c : Clock). if (ltb (length s) (at + 15)) None (if (marks_at s at) (whole_clock c) None)) (numbers_behind s at))

five_behind : (s : List ℕ) (at : ℕ) → at ≤ length s → eqb 5 (length (drop at s)) ≡ eqb (at + 5) (length s)
five_behind s at h = by (eqb (at + 5) (length s)) refl
  where
    by : (t : Bool) → eqb (at + 5) (length s) ≡ t → eqb 5 (length (drop at s)) ≡ t
    by true e = eq-eqb _ _ (omega (arith, eqb-true _ _ e, length-drop at s))
    by false e = ne_eqb _ _ (λ k. eqb-false _ _ e (omega (arith, k, length-drop at s)))

pub offset_behind : (s : List ℕ) (at : ℕ) → at ≤ length s → offset_at (drop at s) 0 ≡ offset_at s at
unfolding offset_at
offset_behind s at h =
    let behind : (k : ℕ) → two_digits_at s (at + k) ≡ two_digits_at (drop at s) k = two_at-drop s at in
    rw (five_behind s at h, get_or-drop at s 2 0, ← behind 0, behind 3, add-zero) refl
