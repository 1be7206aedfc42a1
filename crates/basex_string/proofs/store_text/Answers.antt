use mathlib.Core.Path.{ap, ◌∙◌}
use Prim.Native.Nat.{◌-◌}
use native.Mathlib.Omega.{arith}
use lib.ListN.{take, drop, length-drop}
use lib.Seq.{length-take-le}
use Rattle.wire.specs.Bytes.{splice}
use Rattle.wire.proofs.Splices.{put_at-fits}
use Rattle.basex_string.specs.Scan.{reading}
use Rattle.basex_string.proofs.Scans.{located-length}
use Rattle.basex_string.proofs.Laws.{located-next, located-plain}
use Rattle.basex_string.proofs.store_text.Goals as goal

pub overflow_sub-end : goal.overflow_sub-end
overflow_sub-end c =
    let a = c.args in
    let n = located-next a.bytes.now a.at a.found c.requires.0 in
    omega arith

pub overflow_sub-end-2 : goal.overflow_sub-end-2
overflow_sub-end-2 c =
    let a = c.args in
    let n = located-next a.bytes.now a.at a.found c.requires.0 in
    omega arith

pub slice_bounds-put_bytes-count : goal.slice_bounds-put_bytes-count
slice_bounds-put_bytes-count c =
    let a = c.args in
    let n = located-next a.bytes.now a.at a.found c.requires.0 in
    omega arith

pub slice_bounds-put_bytes-start : goal.slice_bounds-put_bytes-start
slice_bounds-put_bytes-start c =
    let a = c.args in
    let n = located-next a.bytes.now a.at a.found c.requires.0 in
    omega arith

pub slice_bounds-put_bytes-end : goal.slice_bounds-put_bytes-end
slice_bounds-put_bytes-end c =
    let a = c.args in
    let n = located-next a.bytes.now a.at a.found c.requires.0 in
    omega arith

pub store_escaped-requires : goal.store_escaped-requires
store_escaped-requires c =
    let a = c.args in
    record {
      size = located-length _ (reading (drop a.at a.bytes.now)) c.requires.0;
      fits = omega arith;
    }

pub returns-then-end-at : goal.returns-then-end-at
returns-then-end-at c =
    let a = c.args in
    let p = c.requires.0 in
    let n = located-next a.bytes.now a.at a.found p in
    let m = a.found.next - 1 - a.at in
    let d = length-drop a.at a.bytes.now in
    let l = length-take-le m (drop a.at a.bytes.now) (omega arith) in
    c.put_bytes.ensures ∙ put_at-fits a.out.now a.to (take m (drop a.at a.bytes.now)) (omega arith) ∙ ap (splice a.out.now a.to)
    (located-plain a.bytes.now a.at a.found p c.if-end-at.true)
