use mathlib.Core.Path.{refl, sym, ap, ◌∙◌}
use Rattle.std.proofs.lemmas.Bool.Decides.{nat_tests}
use native.Mathlib.Omega.{arith}
use Rattle.basex_string.proofs.Handed.{handed, was-some, was-none}
use Rattle.basex_response.specs.Reading.{reading_as}
use Rattle.basex_response.proofs.Whole.{none_read, some_read}
use Rattle.basex_response.proofs.read.read_response.Goals as goal

pub returns-then-is_empty : goal.returns-then-is_empty
returns-then-is_empty c =
    let a = c.args in rw (none_read a.kind a.bytes.now (grind (arith, nat_tests))) (record { answers = refl; leaves = refl })

pub returns-in_err-reply : goal.returns-in_err-reply
returns-in_err-reply c =
    let a = c.args in
    let n = was-none c.find.result c.in_err-reply.ensures.value in
    rw (handed _ c.from_residual.ensures.1, n.1)
    (rw (some_read a.kind a.bytes.now (grind (arith, nat_tests)) ∙ ap (λ f. reading_as f a.bytes.now) (sym c.find.ensures ∙ n.0)) (record { answers = refl; leaves = refl }))

pub returns : goal.returns
returns c =
    let a = c.args in
    let f = sym c.find.ensures ∙ was-some _ _ c.in_ok-reply.ensures.value in
    rw (some_read a.kind a.bytes.now (grind (arith, nat_tests)) ∙ ap (λ f. reading_as f a.bytes.now) f) c.read_as.ensures
