use mathlib.Core.Path.{refl, sym, ◌∙◌}
use Prim.Native.Nat.{◌+◌}
use native.Mathlib.Omega.{arith}
use lib.ListN.{length-set}
use Rattle.basex_string.proofs.Runs.{run-start, run-special, run-plain}
use Rattle.basex_string.proofs.Copies.{copied_none, copied_byte}
use Rattle.basex_string.proofs.put.put_singles.Goals as goal

pub loop-k-init : goal.loop-k-init
loop-k-init c =
    let a = c.args in
    (refl, omega arith, omega arith, copied_none a.bytes.now a.out.now a.from a.to)

pub returns-else-not-is_special : goal.returns-else-not-is_special
returns-else-not-is_special c =
    let a = c.args in
    let l = c.loop-k in
    let e = run-special a.bytes.now (a.from + l.k) (omega arith) (sym c.is_special.ensures ∙ c.if-not-is_special.false) in
    let s = run-start a.bytes.now a.from (a.from + l.k) (omega arith) (omega arith) in
    record { answers = omega arith; leaves = l.invariant.3 }

pub loop-k-preserved : goal.loop-k-preserved
loop-k-preserved c =
    let a = c.args in
    let l = c.loop-k in
    let e = run-plain a.bytes.now (a.from + l.k) (omega arith) (sym c.is_special.ensures ∙ c.if-not-is_special.true) in
    let s = run-start a.bytes.now a.from (a.from + l.k) (omega arith) (omega arith) in
    (simp length-set l.invariant.0, omega arith, omega arith, copied_byte a.bytes.now a.out.now a.from a.to l.k l.invariant.3 (omega arith) (omega arith))
