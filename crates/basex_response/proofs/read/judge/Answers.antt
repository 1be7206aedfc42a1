use mathlib.Core.Path.{sym, ◌∙◌}
use Rattle.basex_string.proofs.Handed.{handed}
use Rattle.basex_response.proofs.Fields.{ahead_here, ahead_not, list_here, list_not, end_here, end_not, answer-ahead, answer-list, answer-end, answer-read}
use Rattle.basex_response.proofs.read.judge.Goals as goal

pub returns-in_err-ahead : goal.returns-in_err-ahead
returns-in_err-ahead c =
    let a = c.args in
    handed _ c.from_residual.ensures.1
    ∙ answer-ahead a.reply a.bytes.now _ (ahead_not a.reply a.bytes.now _ c.strings_ahead-n.ensures _ (sym c.two_at.ensures ∙ c.in_err-ahead.was))

pub returns-in_err-list : goal.returns-in_err-list
returns-in_err-list c =
    let a = c.args in
    let w = ahead_here a.reply a.bytes.now _ c.strings_ahead-n.ensures _ (sym c.two_at.ensures ∙ c.in_ok-ahead.was) in
    handed _ c.from_residual-in_err-list.ensures.1
    ∙ answer-list a.reply a.bytes.now _ w _ (list_not a.reply a.bytes.now c.in_ok-ahead.ahead.next _ (sym c.list_at.ensures ∙ c.in_err-list.was))

pub returns-in_err-end : goal.returns-in_err-end
returns-in_err-end c =
    let a = c.args in
    let w = ahead_here a.reply a.bytes.now _ c.strings_ahead-n.ensures _ (sym c.two_at.ensures ∙ c.in_ok-ahead.was) in
    let l = list_here a.reply a.bytes.now _ _ (sym c.list_at.ensures ∙ c.in_ok-list.was) in
    handed _ c.from_residual-in_err-end.ensures.1
    ∙ answer-end a.reply a.bytes.now _ w _ l _ (end_not a.reply a.bytes.now c.in_ok-list.list.next _ (sym c.end_at.ensures ∙ c.in_err-end.was))

pub returns : goal.returns
returns c =
    let a = c.args in
    let w = ahead_here a.reply a.bytes.now _ c.strings_ahead-n.ensures _ (sym c.two_at.ensures ∙ c.in_ok-ahead.was) in
    let l = list_here a.reply a.bytes.now _ _ (sym c.list_at.ensures ∙ c.in_ok-list.was) in
    answer-read a.reply a.bytes.now _ w _ l _ (end_here a.reply a.bytes.now _ _ (sym c.end_at.ensures ∙ c.in_ok-end.was))
