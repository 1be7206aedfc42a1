use mathlib.Core.Bool.{Bool}
use mathlib.Core.Path.{◌≡◌, refl, sym, ap}
use Prim.Native.Nat.{◌+◌, ◌-◌}
use native.Mathlib.Omega.{arith}
use lib.ListN.{drop, length-set}
use Rattle.wire.specs.Bytes.{if}
use Rattle.basex_string.specs.Scan.{scan}
use Rattle.basex_string.specs.inner.Storing.{text_read}
use Rattle.basex_string.proofs.Few.{one_at_most, midst_start, midst_end, midst_stop, midst_here, midst_next}
use Rattle.basex_string.proofs.put_few.Goals as goal
use Rattle.basex_string.proofs.put_few.Goals.{else-not-escaped, then-not-escaped}

pub loop-count-init : goal.loop-count-init
loop-count-init c =
    let a = c.args in
    (refl, (omega arith, midst_start a.bytes.now a.from a.most a.out.now a.to c.requires.0.size c.requires.0.fits))

pub bounds-bytes-i : goal.bounds-bytes-i
bounds-bytes-i c =
    midst_here c.loop-count.invariant.1.1 c.loop-count-test.true

pub overflow_add-i : goal.overflow_add-i
overflow_add-i c =
    let h = midst_here c.loop-count.invariant.1.1 c.loop-count-test.true in omega arith

pub shape_of-out-then-escaped : goal.shape_of-out-then-escaped
shape_of-out-then-escaped c =
    simp length-set c.loop-count.invariant.0

pub shape_of-out-then-i-from-eq16 : goal.shape_of-out-then-i-from-eq16
shape_of-out-then-i-from-eq16 c =
    simp length-set c.loop-count.invariant.0

pub loop-count-smaller : goal.loop-count-smaller
loop-count-smaller c =
    let h = midst_here c.loop-count.invariant.1.1 c.loop-count-test.true in omega arith

pub shape_of-out : goal.shape_of-out
shape_of-out c =
    c.loop-count.invariant.0

pub returns : goal.returns
returns c =
    let m = c.loop-count.invariant.1.1 in
    let t = midst_stop m c.loop-count.i
    (ap (λ (e : Bool). text_read (scan e (drop c.loop-count.i c.args.bytes.now))) (sym (midst_end m c.loop-count-test.false))) in
    record { some = omega arith; adds = t.0; makes = t.1 }

pub loop-count-preserved : goal.loop-count-preserved
loop-count-preserved c =
    let r = c.opens-escaped.result in
    let q : c.if-not-escaped.count ≡ c.loop-count.count + if r 0 1 =
    elim c.if-not-escaped.branch [ then-not-escaped w ↦ rw w.if-not-escaped.true w.count-is | else-not-escaped w ↦ rw w.if-not-escaped.false (let e = w.count-is in omega arith) ] in
    let m = midst_next c.loop-count.invariant.1.1 c.loop-count-test.true c.opens-escaped.ensures q in
    (simp length-set c.loop-count.invariant.0, (omega arith, m))

pub returns-then-escaped : goal.returns-then-escaped
returns-then-escaped c =
    let r = c.opens-escaped.result in
    let q : c.if-not-escaped.count ≡ c.loop-count.count + if r 0 1 =
    elim c.if-not-escaped.branch [ then-not-escaped w ↦ rw w.if-not-escaped.true w.count-is | else-not-escaped w ↦ rw w.if-not-escaped.false (let e = w.count-is in omega arith) ] in
    let m = midst_next c.loop-count.invariant.1.1 c.loop-count-test.true
    c.opens-escaped.ensures q in
    let t = midst_stop m (c.loop-count.i + 1 - 1) (m.back c.if-escaped.true) in
    let z = one_at_most r in
    record { some = omega arith; adds = t.0; makes = t.1 }

pub returns-then-i-from-eq16 : goal.returns-then-i-from-eq16
returns-then-i-from-eq16 c =
    let r = c.opens-escaped.result in
    let q : c.if-not-escaped.count ≡ c.loop-count.count + if r 0 1 =
    elim c.if-not-escaped.branch [ then-not-escaped w ↦ rw w.if-not-escaped.true w.count-is | else-not-escaped w ↦ rw w.if-not-escaped.false (let e = w.count-is in omega arith) ] in
    let m = midst_next c.loop-count.invariant.1.1 c.loop-count-test.true
    c.opens-escaped.ensures q in
    let t = midst_stop m (c.loop-count.i + 1)
    (ap (λ (e : Bool). text_read (scan e (drop (c.loop-count.i + 1)
    c.args.bytes.now))) (sym c.if-escaped.false)) in
    let z = one_at_most r in
    record { some = omega arith; adds = t.0; makes = t.1 }
