use mathlib.Core.Path.{refl, sym, ◌∙◌}
use native.Mathlib.Omega.{arith}
use Rattle.basex_string.proofs.Handed.{handed}
use Rattle.basex_request.proofs.Storing.{not_whole, whole, whole_not, whole-read}
use Rattle.basex_request.proofs.read_request.Goals as goal

pub returns-in_err-found : goal.returns-in_err-found
returns-in_err-found c =
    let e = not_whole c.args.bytes.now _ (sym c.in_err-found.was ∙ c.judge.ensures) in
    rw (handed _ c.from_residual.ensures.1, e) (record { answers = refl; leaves = refl })

pub overflow_add-told : goal.overflow_add-told
overflow_add-told c =
    let w = (whole c.args.bytes.now _ (sym c.in_ok-found.was ∙ c.judge.ensures)).short in
    omega arith

pub overflow_add-told-2 : goal.overflow_add-told-2
overflow_add-told-2 c =
    let w = (whole c.args.bytes.now _ (sym c.in_ok-found.was ∙ c.judge.ensures)).short in
    omega arith

pub overflow_add-told-3 : goal.overflow_add-told-3
overflow_add-told-3 c =
    let w = (whole c.args.bytes.now _ (sym c.in_ok-found.was ∙ c.judge.ensures)).short in
    omega arith

pub returns-then-out-told : goal.returns-then-out-told
returns-then-out-told c =
    let a = c.args in
    let w = whole a.bytes.now _ (sym c.in_ok-found.was ∙ c.judge.ensures) in
    whole_not a.bytes.now a.out.now _ w c.if-out-told.true

pub returns : goal.returns
returns c =
    let a = c.args in
    let w = whole a.bytes.now _ (sym c.in_ok-found.was ∙ c.judge.ensures) in
    let r = whole-read a.bytes.now a.out.now _ w c.if-out-told.false in
    record { answers = r.answers; leaves = c.store_judged_texts.ensures.leaves ∙ r.leaves }
