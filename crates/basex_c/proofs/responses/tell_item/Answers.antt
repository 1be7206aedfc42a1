use mathlib.Core.Path.{refl}
use Rattle.basex_c.proofs.Told.{nothing_told}
use Rattle.basex_c.proofs.responses.tell_item.Goals as goal

pub returns-in-Err : goal.returns-in-Err
returns-in-Err c =
    rw c.in-Err.is (record { answers = c.refusal_code.ensures; leaves = refl })

pub returns-in-Ok-End : goal.returns-in-Ok-End
returns-in-Ok-End c =
    let p = rw c.in-Ok-End.is at c.in-Ok-End.field-0-is in
    rw (c.in-Ok-End.is, p) (nothing_told _)

pub returns-in-Ok-Item : goal.returns-in-Ok-Item
returns-in-Ok-Item c =
    let p = rw c.in-Ok-Item.is at c.in-Ok-Item.field-0-is in
    rw (c.in-Ok-Item.is, p, ← c.span.ensures) c.tell.ensures
