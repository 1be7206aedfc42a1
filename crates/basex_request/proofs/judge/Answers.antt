use mathlib.Core.Path.{sym, ap, ◌∙◌}
use Rattle.std.specs.Prelude.{Err}
use Rattle.std.proofs.lemmas.Bool.Decides.{nat_tests}
use native.Mathlib.Omega.{arith}
use Rattle.basex_string.proofs.Handed.{handed, was-some, was-none}
use Rattle.basex_request.proofs.Judging.{none_judged, unknown_judged, command_judged, coded_judged}
use Rattle.basex_request.proofs.Table.{at_most_four}
use Rattle.basex_request.proofs.judge.Goals as goal

pub returns-then-is_empty : goal.returns-then-is_empty
returns-then-is_empty c =
    none_judged c.args.bytes.now (grind (arith, nat_tests))

pub returns-in_err-n : goal.returns-in_err-n
returns-in_err-n c =
    let n = was-none c.find.result c.in_err-n.ensures.value in
    handed _ c.from_residual.ensures.1 ∙ ap Err n.1 ∙ unknown_judged c.args.bytes.now (grind (arith, nat_tests)) (sym c.find.ensures ∙ n.0)

pub strings_from-requires : goal.strings_from-requires
strings_from-requires c =
    at_most_four _ _ _ (sym c.find.ensures ∙ was-some _ _ c.in_ok-n.ensures.value)

pub strings_from-requires-else-is_command : goal.strings_from-requires-else-is_command
strings_from-requires-else-is_command c =
    at_most_four _ _ _ (sym c.find.ensures ∙ was-some _ _ c.in_ok-n.ensures.value)

pub returns-then-is_command : goal.returns-then-is_command
returns-then-is_command c =
    let s = c.args.bytes.now in
    let f = sym c.find.ensures ∙ was-some _ _ c.in_ok-n.ensures.value in
    c.strings_from.ensures ∙ command_judged s (grind (arith, nat_tests)) _ _ f
    (sym c.is_command.ensures ∙ c.if-is_command.true)

pub returns-else-is_command : goal.returns-else-is_command
returns-else-is_command c =
    let s = c.args.bytes.now in
    let f = sym c.find.ensures ∙ was-some _ _ c.in_ok-n.ensures.value in
    c.strings_from-else-is_command.ensures ∙ coded_judged s (grind (arith, nat_tests)) _ _ f
    (sym c.is_command.ensures ∙ c.if-is_command.false)
