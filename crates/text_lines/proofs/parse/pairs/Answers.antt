use borrow.Author.Rules.{rules}
use native.Mathlib.Omega.{arith}
use Rattle.wire.proofs.Call.{is-room, no_room}
use Rattle.text_lines.proofs.Fronts.{refuses}
use Rattle.text_lines.proofs.Pairs.{pairs_odd, pairs-long, paired_start, high_bad, low_bad, paired_next, paired_end}
use Rattle.text_lines.proofs.parse.pairs.Goals as goal
use Rattle.text_lines.proofs.parse.pairs.Goals.{then-digits-ne0-via-then-digits-ne0, then-digits-ne0-via-else-digits-ne0+then-not-has_room}
use Rattle.text_lines.proofs.parse.pairs.Goals.{then-high-gt15-via-then-high-gt15, then-high-gt15-via-else-high-gt15+then-low-gt15}

pub returns-then-digits-ne0 : goal.returns-then-digits-ne0
returns-then-digits-ne0 c =
    let a = c.args in
    refuses (elim c.then-digits-ne0.branch [
      | then-digits-ne0-via-then-digits-ne0 w ↦ pairs_odd a.out.now a.n a.digits.now w.if-digits-ne0.true
      | then-digits-ne0-via-else-digits-ne0+then-not-has_room w ↦
          pairs-long a.out.now a.n a.digits.now (no_room _ _ _ w.has_room.ensures w.if-not-has_room.true)
    ])

pub loop-i-init : goal.loop-i-init
loop-i-init c =
    let a = c.args in
    let h = is-room _ _ _ c.has_room.ensures c.if-not-has_room.false in
    (search rules, paired_start a.out.now a.n a.digits.now (omega arith))

pub returns-then-high-gt15 : goal.returns-then-high-gt15
returns-then-high-gt15 c =
    let p = c.loop-i.invariant.1 in
    refuses (elim c.then-high-gt15.branch [
      | then-high-gt15-via-then-high-gt15 w ↦ high_bad p (omega arith) (omega arith)
      | then-high-gt15-via-else-high-gt15+then-low-gt15 w ↦ low_bad p (omega arith) (omega arith) (omega arith)
    ])

pub loop-i-preserved : goal.loop-i-preserved
loop-i-preserved c =
    let h = is-room _ _ _ c.has_room.ensures c.if-not-has_room.false in
    (search rules, paired_next c.loop-i.invariant.1 (omega arith) _ (omega arith) (omega arith) (omega arith) (omega arith) c.put_byte.ensures)

pub returns : goal.returns
returns c =
    let h = is-room _ _ _ c.has_room.ensures c.if-not-has_room.false in
    paired_end c.loop-i.invariant.1 _ (omega arith) (omega arith) (omega arith)
