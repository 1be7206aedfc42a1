use mathlib.Core.Path.{◌≡◌, refl, sym, ap, ◌∙◌}
use Prim.Native.Nat.{ℕ, ◌+◌, ◌-◌}
use native.Mathlib.Omega.{arith}
use lib.ListN.{take, drop}
use borrow.Author.Tests.{leb-true}
use Rattle.wire.specs.Call.{put_at}
use Rattle.basex_string.proofs.Runs.{skip_next}
use Rattle.basex_string.proofs.Copies.{copied_none, copied_more}
use Rattle.basex_string.proofs.put.put_blocks.Goals as goal

pub loop-k-init : goal.loop-k-init
loop-k-init c =
    let a = c.args in
    (refl, omega arith, omega arith, copied_none a.bytes.now a.out.now a.from a.to)

pub loop-k-preserved : goal.loop-k-preserved
loop-k-preserved c =
    let a = c.args in
    let l = c.loop-k in
    let m = c.put_block in
    let p = leb-true _ _ (sym c.plain_block.ensures ∙ c.if-plain_block.true) in
    let s = skip_next a.bytes.now a.from (a.from + l.k) 16 (omega arith) (omega arith) p in
    let z : a.from + l.k + 16 - (a.from + l.k) ≡ 16 = omega arith in (
      m.auto.out ∙ l.invariant.0,
      omega arith,
      omega arith,
      copied_more a.bytes.now a.out.now a.from a.to l.k 16 l.invariant.3 (omega arith) (omega arith)
          (m.ensures ∙ ap (λ (o : ℕ). put_at l.out (a.to + l.k) (take o (drop (a.from + l.k) a.bytes.now))) z),
    )
