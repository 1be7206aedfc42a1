use mathlib.Core.Path.{refl, sym, ◌∙◌}
use lib.ListN.{length}
use Rattle.basex_string.proofs.Handed.{handed, was-some, was-none}
use Rattle.basex_response.specs.Writing.{end_written}
use Rattle.basex_response.proofs.Writes.{refused_writes, put_writes}
use Rattle.basex_response.proofs.Ends.{end_refused, end-bytes, end-answer}
use Rattle.basex_response.proofs.write.write_end.Goals as goal

pub returns-then-not-end_allowed : goal.returns-then-not-end_allowed
unfolding end_written
returns-then-not-end_allowed c =
    let a = c.args in
    refused_writes _ _ a.out.now a.at _
    (end_refused (length a.out.now) a.at _ _ a.first.now a.second.now a.status a.error.now a.kind
    (sym c.find.ensures ∙ was-some _ _ c.in_ok-reply.ensures.value) (sym c.end_allowed.ensures ∙ c.if-not-end_allowed.true))

pub returns-in_err-reply : goal.returns-in_err-reply
unfolding end_written
returns-in_err-reply c =
    let n = was-none c.find.result c.in_err-reply.ensures.value in
    rw (handed _ c.from_residual.ensures.1, n.1) (rw (sym c.find.ensures ∙ n.0) (record { answers = refl; leaves = refl }))

pub returns : goal.returns
unfolding end_written
returns c =
    let a = c.args in
    let k = sym c.find.ensures ∙ was-some _ _ c.in_ok-reply.ensures.value in
    let d = sym c.end_allowed.ensures ∙ c.if-not-end_allowed.false in
    put_writes a.out.now a.at _ _ (end-bytes (length a.out.now) a.at _ _ a.first.now a.second.now a.status a.error.now a.kind k d) _
    (end-answer (length a.out.now) a.at _ _ a.first.now a.second.now a.status a.error.now a.kind k d)
    c.put_end.ensures
