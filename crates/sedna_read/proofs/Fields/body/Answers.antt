use mathlib.Core.Path.{refl}
use Rattle.sedna.specs.Message.{Body}
use Rattle.sedna_read.proofs.Fields.body.Goals as goal

pub returns-in-Empty : goal.returns-in-Empty
returns-in-Empty c = rw c.in-Empty.is (Body.empty, refl, refl)
