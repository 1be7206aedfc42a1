use mathlib.Core.Path.{sym, ◌∙◌}
use Rattle.basex_string.proofs.Handed.{handed, was-some, was-none}
use Rattle.basex_request.proofs.Puts.{unknown-written, unused-written, known_written, command-request, coded-request}
use Rattle.basex_request.specs.Calls.{four}
use Rattle.basex_request.proofs.write_request.Goals as goal

pub returns-in_err-n : goal.returns-in_err-n
returns-in_err-n c =
    let a = c.args in
    let n = was-none c.find.result c.in_err-n.ensures.value in
    rw (handed _ c.from_residual.ensures.1, n.1)
    (unknown-written a.kind (four a.first.now a.second.now a.third.now a.fourth.now) a.out.now (sym c.find.ensures ∙ n.0))

pub returns-then-not-takes : goal.returns-then-not-takes
returns-then-not-takes c =
    let a = c.args in
    let f = sym c.find.ensures ∙ was-some _ _ c.in_ok-n.ensures.value in
    unused-written a.kind (four a.first.now a.second.now a.third.now a.fourth.now) _ _ f a.out.now (sym c.takes.ensures ∙ c.if-not-takes.true)

pub returns-then-is_command : goal.returns-then-is_command
returns-then-is_command c =
    let a = c.args in
    let ts = four a.first.now a.second.now a.third.now a.fourth.now in
    let f = sym c.find.ensures ∙ was-some _ _ c.in_ok-n.ensures.value in
    let u = sym c.takes.ensures ∙ c.if-not-takes.false in
    let q = command-request a.kind ts _ _ f (sym c.is_command.ensures ∙ c.if-is_command.true) in
    known_written a.kind ts _ _ f a.out.now _ u q c.write_command.ensures

pub returns-else-is_command : goal.returns-else-is_command
returns-else-is_command c =
    let a = c.args in
    let ts = four a.first.now a.second.now a.third.now a.fourth.now in
    let f = sym c.find.ensures ∙ was-some _ _ c.in_ok-n.ensures.value in
    let u = sym c.takes.ensures ∙ c.if-not-takes.false in
    let q = coded-request a.kind ts _ _ f (sym c.is_command.ensures ∙ c.if-is_command.false) in
    known_written a.kind ts _ _ f a.out.now _ u q c.write_coded.ensures
