use mathlib.Core.Path.{refl, ◌∙◌}
use mathlib.Core.List.{List}
use Prim.Native.Nat.{ℕ, ◌+◌, ◌-◌}
use native.Mathlib.Omega.{arith}
use lib.ListN.{take, drop}
use Rattle.basex_string.specs.Scan.{reading}
use Rattle.basex_string.specs.inner.Storing.{text_read}
use Rattle.basex_string.proofs.Steps.{ahead-from, ahead_none, ahead-run, ahead-on}
use Rattle.basex_string.proofs.Scans.{text_here}
use Rattle.basex_string.proofs.Runs.{run_fits, run-size, run-text, run-text-size}
use Rattle.basex_string.proofs.store_escaped.Goals as goal

pub loop-n-init : goal.loop-n-init
loop-n-init c = (
  refl,
  (
    omega arith,
    ahead-from c.args.out.now c.args.to (text_read (reading (drop c.args.at c.args.bytes.now)))
        (omega arith),
  ),
)

pub bounds-bytes-i : goal.bounds-bytes-i
bounds-bytes-i c =
    text_here c.args.bytes.now c.loop-n.i (omega arith)

pub put_pairs-pairs-requires : goal.put_pairs-pairs-requires
put_pairs-pairs-requires c =
    (record { size = omega arith; fits = omega arith }, omega arith, c.if-bytes-i.true)

pub loop-n-preserved-then-bytes-i : goal.loop-n-preserved-then-bytes-i
loop-n-preserved-then-bytes-i c =
    let v = c.loop-n.invariant in
    let p = c.put_pairs-pairs in
    let l = p.auto.out in
    (l ∙ v.0, (omega arith, ahead-on v.1.1 p.ensures.0.makes (omega arith) (omega arith)))

pub slice_bounds-put_bytes-end : goal.slice_bounds-put_bytes-end
slice_bounds-put_bytes-end c =
    let s = c.args.bytes.now in
    let i = c.loop-n.i in
    let h = text_here s i (omega arith) in
    run_fits s i c.skip_blocks-end.result (omega arith) (omega arith) (omega arith)

pub overflow_add-n-then-i-end : goal.overflow_add-n-then-i-end
overflow_add-n-then-i-end c =
    let s = c.args.bytes.now in
    let i = c.loop-n.i in
    let r = c.skip_blocks-end.result in
    let h = text_here s i (omega arith) in
    let l = run-text-size s i r (omega arith) (omega arith) (omega arith) (omega arith) in
    omega arith

pub loop-n-smaller-then-i-end : goal.loop-n-smaller-then-i-end
loop-n-smaller-then-i-end c =
    let s = c.args.bytes.now in
    let i = c.loop-n.i in
    let r = c.skip_blocks-end.result in
    let h = text_here s i (omega arith) in
    let l = run-text-size s i r (omega arith) (omega arith) (omega arith) (omega arith) in
    omega arith

pub loop-n-preserved-then-i-end : goal.loop-n-preserved-then-i-end
loop-n-preserved-then-i-end c =
    let s = c.args.bytes.now in
    let i = c.loop-n.i in
    let r = c.skip_blocks-end.result in
    let h = text_here s i (omega arith) in
    let l = run-text-size s i r (omega arith) (omega arith) (omega arith) (omega arith) in
    let v = c.loop-n.invariant in
    let x : List ℕ = take (r - i) (drop i s) in
    let z = run-size s i r (omega arith) (omega arith) (omega arith) in
    let t = run-text s i r (omega arith) (omega arith) (omega arith) in (
      c.put_bytes.auto.out ∙ v.0,
      (
        omega arith,
        ahead-run x t
            (c.args.to +
            (c.loop-n.n + (r - i))) v.1.1 c.put_bytes.ensures (omega arith),
      ),
    )

pub put_few-few-requires : goal.put_few-few-requires
put_few-few-requires c =
    (record { size = omega arith; fits = omega arith }, omega arith)

pub loop-n-preserved : goal.loop-n-preserved
loop-n-preserved c =
    let v = c.loop-n.invariant in
    let p = c.put_few-few in
    let l = p.auto.out in
    (l ∙ v.0, (omega arith, ahead-on v.1.1 p.ensures.makes (omega arith) (omega arith)))

pub shape_of-out : goal.shape_of-out
shape_of-out c =
    c.loop-n.invariant.0

pub returns : goal.returns
returns c =
    ahead_none c.loop-n.invariant.1.1 (omega arith)
