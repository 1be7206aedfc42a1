use mathlib.Core.Path.{sym, ◌∙◌}
use Rattle.records_printed.proofs.NextLines.{put-end, put-damaged, put-found}
use Rattle.records_printed.proofs.next_line.put_next_line.Goals as goal

pub returns-in-End : goal.returns-in-End
returns-in-End c =
    let a = c.args in
    put-end a.out.now a.number a.session a.bytes.now _ _
    (sym c.record_at.ensures ∙ c.in-End.is)
    c.put_last_line.ensures c.last_of.ensures

pub returns-in-Damaged : goal.returns-in-Damaged
returns-in-Damaged c =
    let a = c.args in
    put-damaged a.out.now a.number a.session a.bytes.now _ _
    (sym c.record_at.ensures ∙ c.in-Damaged.is)
    c.put_last_line-in-Damaged.ensures c.last_of-in-Damaged.ensures

pub returns-in-Record : goal.returns-in-Record
returns-in-Record c =
    let a = c.args in
    put-found a.out.now a.number a.session a.bytes.now _ _ _ (sym c.record_at.ensures ∙ c.in-Record.is)
    c.part-found.ensures c.put_line.ensures
