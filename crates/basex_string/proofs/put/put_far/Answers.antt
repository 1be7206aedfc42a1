use mathlib.Core.Path.{sym, ap, ◌∙◌}
use Prim.Native.Nat.{◌+◌, ◌-◌, ◌≤◌}
use native.Mathlib.Omega.{arith}
use lib.ListN.{length, take, drop, length-drop}
use lib.Seq.{take-take, length-take-le}
use Rattle.wire.specs.Call.{put_at}
use Rattle.wire.proofs.Splices.{put_at-fits}
use Rattle.basex_string.proofs.Runs.{run-within, run-taken}
use Rattle.basex_string.proofs.put.put_far.Goals as goal

pub slice_bounds-put_bytes-end : goal.slice_bounds-put_bytes-end
slice_bounds-put_bytes-end c =
    let a = c.args in
    let part = take (a.from + a.most - a.from) (drop a.from a.bytes.now) in
    let w = run-within part in
    sym (length-take-le c.skip_blocks-k.result part (omega (arith, w)))

pub returns : goal.returns
returns c =
    let a = c.args in
    let k = c.skip_blocks-k.result in
    let n = a.from + a.most - a.from in
    let l = drop a.from a.bytes.now in
    let d = length-drop a.from a.bytes.now in
    let f : n ≤ length l = omega arith in
    let z = length-take-le n l f in
    let w = run-within (take n l) in
    let t = run-taken n l in
    let h : k ≤ n = omega (arith, z, w) in
    let e = length-take-le k l (omega arith) in (
      omega arith,
      omega (arith, t),
      c.put_bytes.ensures ∙ ap (put_at a.out.now a.to) (take-take k n l h) ∙ put_at-fits a.out.now a.to (take k l) (omega arith),
    )
