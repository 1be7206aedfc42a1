use mathlib.Core.Path.{refl, sym, ap, ◌∙◌, ◌≡◌}
use lib.ListN.{length}
use native.Mathlib.Omega.{arith}
use Rattle.basex.specs.Kinds.{find_of, search as scan}
use Rattle.basex.proofs.Scan.{hit, miss, past, kinds_15}
use Rattle.basex.proofs.find.Goals as goal

pub loop-k-init : goal.loop-k-init
unfolding find_of
loop-k-init c = (c.table-k-items.ensures, rw (c.row_byte-b.ensures, c.table-k-items.ensures) refl)

pub returns-then-k-b : goal.returns-then-k-b
returns-then-k-b c =
    let n : length c.table-k-items.result ≡ 15 = ap length c.loop-k.invariant.0 ∙ kinds_15 in
    sym (c.loop-k.invariant.1 ∙ hit c.row_byte-b.result _ c.table-k-items.result c.loop-k.k-index (omega arith) c.if-k-b.true)

pub loop-k-preserved : goal.loop-k-preserved
loop-k-preserved c =
    let n : length c.table-k-items.result ≡ 15 = ap length c.loop-k.invariant.0 ∙ kinds_15 in (
      c.loop-k.invariant.0,
      c.loop-k.invariant.1 ∙ miss c.row_byte-b.result _ c.table-k-items.result c.loop-k.k-index (omega arith) c.if-k-b.false,
    )

pub returns : goal.returns
returns c =
    let n : length c.table-k-items.result ≡ 15 = ap length c.loop-k.invariant.0 ∙ kinds_15 in
    sym (c.loop-k.invariant.1 ∙ past c.row_byte-b.result c.table-k-items.result c.loop-k.k-index (omega arith))
