use borrow.Author.Tests.{lt-ltb, le-ltb}
use borrow.Author.Rules.{rules}
use Rattle.basex_c.proofs.strings.usable.Goals as goal

pub returns-then-lent-told : goal.returns-then-lent-told
returns-then-lent-told c =
    search (rules, lt-ltb, le-ltb)

pub returns-else-lent-told : goal.returns-else-lent-told
returns-else-lent-told c =
    search (rules, lt-ltb, le-ltb)
