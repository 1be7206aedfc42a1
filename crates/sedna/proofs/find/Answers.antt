use Rattle.std.proofs.Common.{◌≡◌, ◌∙◌, sym, ap, length}
use native.Mathlib.Omega.{arith}
use Rattle.sedna.specs.Table.{find_of, search as scan}
use Rattle.sedna.proofs.Scan.{hit, miss, past, rows_46}
use Rattle.sedna.proofs.find.Goals as goal

pub loop-entry-init : goal.loop-entry-init
unfolding find_of
loop-entry-init c = (c.table-entry-items.ensures, ap (scan c.args.instruction) (sym c.table-entry-items.ensures))

pub returns-then-entry-instruction : goal.returns-then-entry-instruction
returns-then-entry-instruction c =
    let n : length c.table-entry-items.result ≡ 46 = ap length c.loop-entry.invariant.0 ∙ rows_46 in
    sym (c.loop-entry.invariant.1 ∙ hit c.args.instruction _ c.table-entry-items.result c.loop-entry.entry-index (omega arith) c.if-entry-instruction.true)

pub loop-entry-preserved : goal.loop-entry-preserved
loop-entry-preserved c =
    let n : length c.table-entry-items.result ≡ 46 = ap length c.loop-entry.invariant.0 ∙ rows_46 in (
      c.loop-entry.invariant.0,
      c.loop-entry.invariant.1 ∙ miss c.args.instruction _ c.table-entry-items.result c.loop-entry.entry-index (omega arith) c.if-entry-instruction.false,
    )

pub returns : goal.returns
returns c =
    let n : length c.table-entry-items.result ≡ 46 = ap length c.loop-entry.invariant.0 ∙ rows_46 in
    sym (c.loop-entry.invariant.1 ∙ past c.args.instruction c.table-entry-items.result c.loop-entry.entry-index (omega arith))
