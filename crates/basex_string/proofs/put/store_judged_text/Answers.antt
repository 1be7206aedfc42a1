use mathlib.Core.Path.{◌≡◌, refl, ◌∙◌}
use Prim.Native.Nat.{ℕ, ◌+◌, ◌-◌, ◌<◌, min}
use native.Mathlib.Omega.{arith}
use lib.ListN.{length, drop, length-drop, length-set}
use Rattle.basex_string.proofs.Runs.{run_goes, run-within}
use Rattle.basex_string.proofs.Unescaping.{unescaped-end, unescaped-zero, unescaped-full, unescaped-cut, going_start, going_pair, going_run, going_end}
use Rattle.basex_string.proofs.put.store_judged_text.Goals as goal

-- a run that is not empty is passed by a byte at least, where there is room
past : {l i room n k : ℕ} → i < l → k ≡ min room n → 0 < room → 0 < n → l - (i + k) < l - i
past h e r p = omega arith

pub loop-i-init : goal.loop-i-init
loop-i-init c =
    let a = c.args in
    (refl, (omega arith, omega arith), going_start a.bytes.now a.out.now a.at a.to)

pub shape_of-out-then-b-eq0 : goal.shape_of-out-then-b-eq0
shape_of-out-then-b-eq0 c =
    c.loop-i.invariant.0

pub returns-then-b-eq0 : goal.returns-then-b-eq0
returns-then-b-eq0 c =
    let a = c.args in
    let l = c.loop-i in
    let d = length-drop (l.i + 1) a.bytes.now in
    going_end a.bytes.now a.out.now a.at a.to (l.i + 1) l.invariant.2
    (unescaped-zero (length l.out - l.n) a.bytes.now l.i c.loop-i-test.true c.if-b-eq0.true) (omega arith)

pub shape_of-out-then-out-n : goal.shape_of-out-then-out-n
shape_of-out-then-out-n c =
    c.loop-i.invariant.0

pub returns-then-out-n : goal.returns-then-out-n
returns-then-out-n c =
    let a = c.args in
    let l = c.loop-i in
    let d = length-drop l.i a.bytes.now in
    going_end a.bytes.now a.out.now a.at a.to l.i l.invariant.2
    (unescaped-full (length l.out - l.n) a.bytes.now l.i c.loop-i-test.true c.if-b-eq0.false (omega arith)) (omega arith)

pub shape_of-out-then-bytes-i-lt2 : goal.shape_of-out-then-bytes-i-lt2
shape_of-out-then-bytes-i-lt2 c =
    c.loop-i.invariant.0

pub returns-then-bytes-i-lt2 : goal.returns-then-bytes-i-lt2
returns-then-bytes-i-lt2 c =
    let a = c.args in
    let l = c.loop-i in
    going_end a.bytes.now a.out.now a.at a.to (l.i + 1) l.invariant.2
    (unescaped-cut (length l.out - l.n) a.bytes.now l.i c.loop-i-test.true (omega arith) c.if-b.true (omega arith)) (omega arith)

pub loop-i-preserved-then-b : goal.loop-i-preserved-then-b
loop-i-preserved-then-b c =
    let a = c.args in
    let l = c.loop-i in
    (simp length-set l.invariant.0, (omega arith, omega arith), going_pair l.invariant.2 (omega arith) c.if-b.true (omega arith))

pub put_run-count-requires : goal.put_run-count-requires
put_run-count-requires c =
    (omega arith, omega arith)

pub overflow_add-i-else-b : goal.overflow_add-i-else-b
overflow_add-i-else-b c =
    let a = c.args in
    let l = c.loop-i in
    let w = run-within (drop l.i a.bytes.now) in
    let d = length-drop l.i a.bytes.now in
    omega arith

pub loop-i-smaller : goal.loop-i-smaller
loop-i-smaller c =
    let a = c.args in
    let l = c.loop-i in
    let g = run_goes a.bytes.now l.i c.loop-i-test.true c.if-b-eq0.false
    c.if-b.false in
    past c.loop-i-test.true c.put_run-count.ensures.answers (omega arith) g

pub loop-i-preserved : goal.loop-i-preserved
loop-i-preserved c =
    let a = c.args in
    let l = c.loop-i in
    let w = run-within (drop l.i a.bytes.now) in
    let d = length-drop l.i a.bytes.now in
    let p = c.put_run-count in
    (p.auto.out ∙ l.invariant.0, (omega arith, omega arith), going_run l.invariant.2 p.result (omega arith) (omega arith) p.ensures.leaves)

pub shape_of-out : goal.shape_of-out
shape_of-out c =
    c.loop-i.invariant.0

pub returns : goal.returns
returns c =
    let a = c.args in
    let l = c.loop-i in
    going_end a.bytes.now a.out.now a.at a.to l.i l.invariant.2 (unescaped-end (length l.out - l.n) a.bytes.now l.i c.loop-i-test.false) (omega arith)
