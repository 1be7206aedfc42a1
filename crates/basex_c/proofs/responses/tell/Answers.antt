use mathlib.Core.Path.{refl}
use Rattle.basex_c.proofs.responses.tell.Goals as goal

pub returns-in-Err : goal.returns-in-Err
returns-in-Err c =
    rw c.in-Err.is (record { answers = c.refusal_code.ensures; leaves = refl })

pub returns-in-Ok : goal.returns-in-Ok
returns-in-Ok c =
    rw c.in-Ok.is c.tell.ensures
