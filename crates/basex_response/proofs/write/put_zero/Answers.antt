use mathlib.Core.Path.{refl}
use Rattle.basex_response.specs.inner.Spelling.{zero_if}
use Rattle.basex.proofs.Puts.{none-put}
use Rattle.basex_response.proofs.write.put_zero.Goals as goal

pub returns-then-present : goal.returns-then-present
returns-then-present c =
    rw c.if-present.true (record { answers = refl; leaves = c.put_byte.ensures })

pub returns-else-present : goal.returns-else-present
returns-else-present c =
    let a = c.args in none-put zero_if refl a.out.now a.at a.present c.if-present.false c.requires
