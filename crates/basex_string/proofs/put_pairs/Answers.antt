use mathlib.Core.Path.{refl, subst, sym, ap}
use Prim.Native.Nat.{◌+◌, ◌*◌}
use native.Mathlib.Omega.{arith}
use lib.ListN.{length, drop, length-set}
use Rattle.wire.proofs.Splices.{Ahead}
use Rattle.basex_string.specs.Scan.{reading}
use Rattle.basex_string.specs.inner.Storing.{text_read}
use Rattle.basex_string.proofs.Steps.{ahead-from, ahead-one}
use Rattle.basex_string.proofs.Scans.{text_here, text-two}
use Rattle.basex_string.proofs.Pairs.{behind-none, behind-next, behind-first}
use Rattle.basex_string.proofs.put_pairs.Goals as goal

pub loop-n-init : goal.loop-n-init
loop-n-init c =
    let a = c.args in
    let z = behind-none a.bytes.now a.from in
    let l = ap length z in
    let h = text_here a.bytes.now a.from (omega arith) in
    (refl, (omega arith, (omega arith, subst (Ahead _ _ _) (sym z) (ahead-from a.out.now a.to (text_read (reading (drop a.from a.bytes.now))) (omega arith)))))

pub bounds-bytes-from : goal.bounds-bytes-from
bounds-bytes-from c =
    text_here c.args.bytes.now (c.args.from + 2 * c.loop-n.n) (omega arith)

pub returns-else-bytes-from : goal.returns-else-bytes-from
returns-else-bytes-from c =
    let v = c.loop-n.invariant in
    let a = c.args in
    let f = behind-first a.bytes.now a.from c.loop-n.n c.requires.2 c.if-bytes-from.false in
    (record { some = f; adds = v.1.1.0; makes = v.1.1.1.makes }, v.1.0)

pub overflow_add-out-in-loop-n : goal.overflow_add-out-in-loop-n
overflow_add-out-in-loop-n c =
    let a = c.args in
    let n = c.loop-n.n in
    let h = text-two a.bytes.now (a.from + 2 * n) (omega arith) c.if-bytes-from.true in
    omega arith

pub bounds-bytes-from-in-loop-n : goal.bounds-bytes-from-in-loop-n
bounds-bytes-from-in-loop-n c =
    let a = c.args in
    let n = c.loop-n.n in
    let h = text-two a.bytes.now (a.from + 2 * n) (omega arith) c.if-bytes-from.true in
    omega arith

pub returns-then-n-eq8 : goal.returns-then-n-eq8
returns-then-n-eq8 c =
    let a = c.args in
    let n = c.loop-n.n in
    let h = text-two a.bytes.now (a.from + 2 * n) (omega arith) c.if-bytes-from.true in
    let v = c.loop-n.invariant in
    let e = behind-next a.bytes.now a.from n (omega arith) c.if-bytes-from.true in
    let l = ap length e in
    (record { some = omega arith; adds = omega arith; makes = (ahead-one a.to n e v.1.1.1).makes }, omega arith)

pub loop-n-preserved : goal.loop-n-preserved
loop-n-preserved c =
    let a = c.args in
    let n = c.loop-n.n in
    let h = text-two a.bytes.now (a.from + 2 * n) (omega arith) c.if-bytes-from.true in
    let v = c.loop-n.invariant in
    let e = behind-next a.bytes.now a.from n (omega arith) c.if-bytes-from.true in
    let l = ap length e in
    (simp length-set v.0, (omega arith, (omega arith, ahead-one a.to n e v.1.1.1)))

pub returns-after-loop-n : goal.returns-after-loop-n
returns-after-loop-n c =
    let v = c.loop-n.invariant in
    (record { some = omega arith; adds = v.1.1.0; makes = v.1.1.1.makes }, v.1.0)
