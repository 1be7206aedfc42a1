use mathlib.Core.Path.{sym, ◌∙◌}
use Rattle.basex_string.proofs.Handed.{handed}
use Rattle.basex_response.proofs.Fields.{end_past, status_high, error-refused, end-told}
use Rattle.basex_response.proofs.read.end_at.Goals as goal

pub returns-then-bytes-at : goal.returns-then-bytes-at
returns-then-bytes-at c =
    let a = c.args in end_past a.reply a.bytes.now a.at c.if-bytes-at.true

pub returns-then-status-gt1 : goal.returns-then-status-gt1
returns-then-status-gt1 c =
    let a = c.args in status_high a.reply a.bytes.now a.at c.if-bytes-at.false c.if-status-gt1.true

pub returns-in_err-error : goal.returns-in_err-error
returns-in_err-error c =
    let a = c.args in
    handed _ c.from_residual.ensures.1 ∙ error-refused a.reply a.bytes.now a.at c.if-bytes-at.false c.if-status-gt1.false _
    c.strings_behind-n.ensures _ (sym c.two_at.ensures ∙ c.in_err-error.was)

pub returns : goal.returns
returns c =
    let a = c.args in
    end-told a.reply a.bytes.now a.at c.if-bytes-at.false c.if-status-gt1.false _
    c.strings_behind-n.ensures _ (sym c.two_at.ensures ∙ c.in_ok-error.was)
