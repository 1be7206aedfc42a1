use Rattle.basex.proofs.Puts.{put-present, put-absent}
use Rattle.basex.proofs.put_string_if.Goals as goal

pub returns-then-present-clause-leaves : goal.returns-then-present-clause-leaves
returns-then-present-clause-leaves c =
    rw c.if-present.true (put-present _ _ _ c.write_string.ensures.leaves)

pub returns-else-present-clause-leaves : goal.returns-else-present-clause-leaves
returns-else-present-clause-leaves c =
    rw c.if-present.false (put-absent c.args.out.now c.args.at)
