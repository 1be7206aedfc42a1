use mathlib.Core.Path.{refl}
use Rattle.basex_c.proofs.Told.{nothing_told}
use Rattle.basex_c.proofs.errors.tell_error.Goals as goal

pub returns-in-Err : goal.returns-in-Err
returns-in-Err c =
    rw c.in-Err.is (record { answers = c.refusal_code.ensures; leaves = refl })

pub returns-in-Ok-None : goal.returns-in-Ok-None
returns-in-Ok-None c =
    let p = rw c.in-Ok-None.is at c.in-Ok-None.field-0-is in
    rw (c.in-Ok-None.is, p) (nothing_told _)

pub returns-in-Ok-Some : goal.returns-in-Ok-Some
returns-in-Ok-Some c =
    let p = rw c.in-Ok-Some.is at c.in-Ok-Some.field-0-is in
    rw (c.in-Ok-Some.is, p) c.tell.ensures
