-- The fields of a line, written one behind the other.
use mathlib.Core.List.{List, [], ◌∷◌, ◌++◌}
use mathlib.Core.Path.{◌≡◌, sym, ap, ◌∙◌}
use Prim.Native.Nat.{ℕ, suc, ◌+◌, ◌≤◌, ◌<◌}
use native.Mathlib.Omega.{arith}
use lib.ListN.{length, set, length-append}
use borrow.Author.Tests.{lt-ltb, le-ltb}
use Rattle.wire.specs.Bytes.{int_at}
use Rattle.wire.specs.Call.{put_at}
use Rattle.wire.proofs.Splices.{start, step, last, splice-sets, put_at-fits}
use Rattle.records_printed.specs.declared.Widths.{Widths}
use Rattle.records_printed.specs.Line.{decimal, letter, instruction, space, newline, line}
use Rattle.records_printed.specs.inner.Line.{widths_of, width_of}
use Rattle.records.specs.Record.{Record}

pub put_three : (d : List ℕ) (at x y z : ℕ) → at + 3 ≤ length d → set (set (set d at x) (at + 1) y) (at + 2) z ≡ put_at d at (x ∷ y ∷ z ∷ [])
put_three d at x y z h =
    let p : at + 1 ≡ suc at = omega arith in
    let q : at + 2 ≡ suc (suc at) = omega arith in
    rw (p, q) (splice-sets d at (x ∷ y ∷ z ∷ []) h ∙ sym (put_at-fits d at (x ∷ y ∷ z ∷ []) h))

pub instruction-none : (p : List ℕ) → length p < 4 → instruction p ≡ 45 ∷ []
instruction-none p h = simp (lt-ltb _ _ h)

pub instruction-some : (p : List ℕ) → 4 ≤ length p → instruction p ≡ decimal (int_at p 0)
instruction-some p h = simp (le-ltb _ _ h)

pub line-length : (n : ℕ) (r : Record) (x : ℕ) → length (line n r x) ≡ length (decimal n) + length (instruction r.payload) + length (decimal x) + 5
unfolding line
line-length n r x =
    let a = length-append (decimal n) (space ∷ letter r.side ∷ space ∷ (instruction r.payload ++ (space ∷ (decimal x ++ (newline ∷ []))))) in
    let b = length-append (instruction r.payload) (space ∷ (decimal x ++ (newline ∷ []))) in
    let c = length-append (decimal x) (newline ∷ []) in
    omega arith

-- a line has as many characters as its fields, and five
pub line_width : (n : ℕ) (r : Record) (x : ℕ) (w : Widths) → w ≡ widths_of n r.payload x → width_of w ≡ length (line n r x)
line_width n r x w e = rw e (sym (line-length n r x))

pub fields-put : (d : List ℕ) (at n : ℕ) (r : Record) (x : ℕ) (w : Widths) → w ≡ widths_of n r.payload x → at + width_of w ≤ length d
    → {a b c e f g : List ℕ}
    → a ≡ put_at d at (decimal n)
    → b ≡ put_at a (at + w.number) (space ∷ letter r.side ∷ space ∷ [])
    → c ≡ put_at b (at + w.number + 3) (instruction r.payload)
    → e ≡ put_at c (at + w.number + 3 + w.instruction) (space ∷ [])
    → f ≡ put_at e (at + w.number + 3 + w.instruction + 1) (decimal x)
    → g ≡ put_at f (at + w.number + 3 + w.instruction + 1 + w.answer) (newline ∷ [])
    → g ≡ put_at d at (line n r x)
unfolding line
fields-put d at n r x w v h p q s t u z =
    let l = line_width n r x w v in
    let i : w.number ≡ length (decimal n) = ap (λ (k : Widths). k.number) v in
    let j : w.instruction ≡ length (instruction r.payload) = ap (λ (k : Widths). k.instruction) v in
    let k : w.answer ≡ length (decimal x) = ap (λ (k : Widths). k.answer) v in
    let fits : at + length (line n r x) ≤ length d = omega arith in
    let first = step (decimal n) (at + w.number) (start d at (line n r x) fits) p (omega arith) in
    let second = step (space ∷ letter r.side ∷ space ∷ []) (at + w.number + 3) first q (omega arith) in
    let third = step (instruction r.payload) (at + w.number + 3 + w.instruction) second s (omega arith) in
    let fourth = step (space ∷ []) (at + w.number + 3 + w.instruction + 1) third t (omega arith) in
    let fifth = step (decimal x) (at + w.number + 3 + w.instruction + 1 + w.answer) fourth u (omega arith) in
    last fifth z ∙ sym (put_at-fits d at (line n r x) fits)
