use mathlib.Core.Path.{◌∙◌}
use Prim.Native.Nat.{◌+◌}
use native.Mathlib.Omega.{arith}
use Rattle.basex_string.proofs.Runs.{run-start}
use Rattle.basex_string.proofs.Copies.{copied_over}
use Rattle.basex_string.proofs.put.put_plain.Goals as goal

pub returns-then-few-lt64 : goal.returns-then-few-lt64
returns-then-few-lt64 c =
    let k = c.put_blocks-few in
    (omega (arith, k.ensures.0), k.ensures.1, k.ensures.2)

pub returns : goal.returns
returns c =
    let a = c.args in
    let k = c.put_blocks-few in
    let m = c.put_far in
    let s = run-start a.bytes.now a.from (a.from + k.result) (omega arith) (omega (arith, k.ensures.1)) in (
      omega (arith, k.ensures.0, m.ensures.0),
      omega (arith, s, m.ensures.1),
      m.ensures.2 ∙ copied_over a.bytes.now a.out.now a.from a.to k.result m.result k.ensures.2 (omega arith) (omega arith),
    )
