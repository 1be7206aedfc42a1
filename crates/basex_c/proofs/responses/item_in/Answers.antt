use mathlib.Core.Path.{sym, ◌∙◌}
use borrow.Author.Tests.{lt-ltb, le-ltb}
use Rattle.basex_string.proofs.Handed.{handed, was-some, was-none}
use Rattle.basex_c.proofs.responses.item_in.Goals as goal

pub returns-then-bytes-at : goal.returns-then-bytes-at
returns-then-bytes-at c =
    rw (le-ltb _ _ c.if-bytes-at.true)

pub returns-in_err-reply : goal.returns-in_err-reply
returns-in_err-reply c =
    let n = was-none c.find.result c.in_err-reply.ensures.value in
    rw (handed _ c.from_residual.ensures.1, n.1, lt-ltb _ _ c.if-bytes-at.false, sym c.find.ensures ∙ n.0)

pub returns-then-not-is_listed : goal.returns-then-not-is_listed
returns-then-not-is_listed c =
    rw (
      lt-ltb _ _ c.if-bytes-at.false,
      sym c.find.ensures ∙ was-some _ _ c.in_ok-reply.ensures.value,
      sym c.is_listed.ensures ∙ c.if-not-is_listed.true,
    )

pub returns : goal.returns
returns c =
    rw (
      lt-ltb _ _ c.if-bytes-at.false,
      sym c.find.ensures ∙ was-some _ _ c.in_ok-reply.ensures.value,
      sym c.is_listed.ensures ∙ c.if-not-is_listed.false,
      ← c.is_full.ensures,
    ) c.item_at.ensures
