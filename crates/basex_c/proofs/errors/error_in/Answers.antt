use Rattle.std.specs.Prelude.{Ok, Some}
use mathlib.Core.Path.{sym, ap, ◌∙◌}
use borrow.Author.Tests.{lt-ltb, le-ltb, eq-eqb, ne_eqb}
use Rattle.basex_string.proofs.Handed.{handed, was-some, was-none}
use Rattle.basex_c.proofs.errors.error_in.Goals as goal

pub returns-then-response-lt6 : goal.returns-then-response-lt6
returns-then-response-lt6 c =
    rw (lt-ltb _ _ c.if-response-lt6.true)

pub returns-then-status-gt1 : goal.returns-then-status-gt1
returns-then-status-gt1 c =
    rw (
      le-ltb _ _ c.if-response-lt6.false,
      sym c.find.ensures ∙ was-some _ _ c.in_ok-reply.ensures.value,
      lt-ltb _ _
          c.if-status-gt1.true,
    )

pub returns-then-status-eq0 : goal.returns-then-status-eq0
returns-then-status-eq0 c =
    rw (
      le-ltb _ _ c.if-response-lt6.false,
      sym c.find.ensures ∙ was-some _ _ c.in_ok-reply.ensures.value,
      le-ltb _ _
          c.if-status-gt1.false,
      eq-eqb _ _ c.if-status-eq0.true,
    )

pub returns-in_err-reply : goal.returns-in_err-reply
returns-in_err-reply c =
    let n = was-none c.find.result c.in_err-reply.ensures.value in
    rw (handed _ c.from_residual.ensures.1, n.1, le-ltb _ _ c.if-response-lt6.false, sym c.find.ensures ∙ n.0)

pub returns : goal.returns
returns c =
    rw (
      le-ltb _ _ c.if-response-lt6.false,
      sym c.find.ensures ∙ was-some _ _ c.in_ok-reply.ensures.value,
      le-ltb _ _
          c.if-status-gt1.false,
      ne_eqb _ _ c.if-status-eq0.false,
    ) (ap (λ p. Ok (Some p)) c.error_at.ensures)
