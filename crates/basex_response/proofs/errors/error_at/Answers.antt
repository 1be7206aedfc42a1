use borrow.Author.Tests.{lt-ltb, le-ltb}
use Rattle.basex_response.proofs.errors.error_at.Goals as goal

pub returns-then-is_listed : goal.returns-then-is_listed
returns-then-is_listed c =
    rw (← c.error_behind.ensures, c.if-error_behind.true, ← c.is_listed.ensures, c.if-is_listed.true)

pub returns-else-is_listed : goal.returns-else-is_listed
returns-else-is_listed c =
    rw (← c.error_behind.ensures, c.if-error_behind.true, ← c.is_listed.ensures, c.if-is_listed.false)

pub returns-then-strings_ahead-gt1 : goal.returns-then-strings_ahead-gt1
returns-then-strings_ahead-gt1 c =
    rw (← c.error_behind.ensures, c.if-error_behind.false, ← c.strings_ahead.ensures, lt-ltb _ _ c.if-strings_ahead-gt1.true)

pub returns : goal.returns
returns c =
    rw (← c.error_behind.ensures, c.if-error_behind.false, ← c.strings_ahead.ensures, le-ltb _ _ c.if-strings_ahead-gt1.false)
