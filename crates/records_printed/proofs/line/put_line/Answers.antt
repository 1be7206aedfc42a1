use Rattle.std.proofs.lemmas.Result.{err_from_is_err_and}
use mathlib.Core.Path.{sym, ◌∙◌}
use Rattle.wire.proofs.Call.{counted-there}
use Rattle.records.specs.Record.{record_of}
use Rattle.records_printed.proofs.Rooms.{line-put, line_not}
use Rattle.records_printed.proofs.line.put_line.Goals as goal

pub put_fields-requires : goal.put_fields-requires
put_fields-requires c = (
  c.measure-w.ensures.answers,
  (counted-there _ _ _ _
      (sym (rw c.line.ensures at c.in_room.ensures) ∙ c.in_ok-count.was)).1,
)

pub returns-in_err-count : goal.returns-in_err-count
returns-in_err-count c =
    let p = err_from_is_err_and c.from_residual.result c.from_residual.ensures.1 in
    let a = c.args in
    rw (p.1, p.2)
    (line_not a.number a.session (record_of a.side a.payload.now) _ c.answer-a.ensures _
    c.measure-w.ensures
    a.out.now a.at (sym (rw c.line.ensures at c.in_room.ensures) ∙ c.in_err-count.was))

pub returns : goal.returns
returns c =
    let a = c.args in
    line-put a.number a.session (record_of a.side a.payload.now) _ c.answer-a.ensures _ c.measure-w.ensures
    a.out.now a.at (sym (rw c.line.ensures at c.in_room.ensures) ∙ c.in_ok-count.was) c.put_fields.ensures
