use mathlib.Core.Path.{◌≡◌, sym, ap, ◌∙◌}
use Prim.Native.Nat.{ℕ, ◌+◌, ◌-◌, ◌<◌}
use native.Mathlib.Omega.{arith}
use lib.ListN.{length, take, drop, get_or, length-drop}
use lib.Seq.{length-take-le}
use Rattle.basex_string.specs.Strings.{special}
use Rattle.basex_string.proofs.Runs.{block_special, block_plain}
use Rattle.basex_string.proofs.plain_block.Goals as goal
use Rattle.basex_string.proofs.plain_block.Goals.{else-is_special, then-is_special}

pub loop-b-preserved : goal.loop-b-preserved
loop-b-preserved c =
    let a = c.args in
    let l = drop a.at a.s.now in
    let d = length-drop a.at a.s.now in
    let n : a.at + 16 - a.at ≡ 16 = omega arith in
    let i = c.loop-b.b-index in
    let few : i < 16 = omega (arith, length-take-le 16 l (omega arith), ap (λ (m : ℕ). length (take m l)) n) in
    let e = ap (λ (m : ℕ). special (get_or (take m l) i 0)) (sym n) ∙ sym c.is_special.ensures in
    elim c.if-is_special.branch [
      | then-is_special w ↦ w.plain-is ∙ block_special l i c.loop-b.plain few (omega arith) c.loop-b.invariant (e ∙ w.if-is_special.true)
      | else-is_special w ↦ w.plain-is ∙ block_plain l i c.loop-b.plain few (omega arith) c.loop-b.invariant (e ∙ w.if-is_special.false)
    ]
