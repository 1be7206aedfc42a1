use mathlib.Core.Path.{sym, ◌∙◌}
use native.Mathlib.Omega.{arith}
use Rattle.basex_string.proofs.Handed.{handed}
use Rattle.basex_response.proofs.Whole.{told, not_told, no_room, roomy, fitting}
use Rattle.basex_response.proofs.read.read_as.Goals as goal

pub returns-in_err-told : goal.returns-in_err-told
returns-in_err-told c =
    let a = c.args in
    rw (handed _ c.from_residual.ensures.1) (not_told a.reply a.bytes.now _ a.out.now (sym c.judge.ensures ∙ c.in_err-told.was))

pub overflow_add-told : goal.overflow_add-told
overflow_add-told c =
    let t = told c.args.reply c.args.bytes.now _ (sym c.judge.ensures ∙ c.in_ok-told.was) in let h = t.short in omega arith

pub overflow_add-told-2 : goal.overflow_add-told-2
overflow_add-told-2 c =
    let t = told c.args.reply c.args.bytes.now _ (sym c.judge.ensures ∙ c.in_ok-told.was) in let h = t.short in omega arith

pub overflow_add-told-3 : goal.overflow_add-told-3
overflow_add-told-3 c =
    let t = told c.args.reply c.args.bytes.now _ (sym c.judge.ensures ∙ c.in_ok-told.was) in let h = t.short in omega arith

pub returns-then-out-told : goal.returns-then-out-told
returns-then-out-told c =
    let a = c.args in
    let t = told a.reply a.bytes.now _ (sym c.judge.ensures ∙ c.in_ok-told.was) in
    no_room a.reply a.bytes.now _ t a.out.now c.if-out-told.true

pub store-requires : goal.store-requires
store-requires c =
    let a = c.args in
    let t = told a.reply a.bytes.now _ (sym c.judge.ensures ∙ c.in_ok-told.was) in
    fitting a.reply a.bytes.now _ t a.out.now c.if-out-told.false

pub returns : goal.returns
returns c =
    let a = c.args in
    let t = told a.reply a.bytes.now _ (sym c.judge.ensures ∙ c.in_ok-told.was) in
    let e = sym c.in_ok-told.was ∙ c.judge.ensures ∙ roomy a.reply a.bytes.now _ t a.out.now c.if-out-told.false in
    record { answers = e; leaves = c.store.ensures }
