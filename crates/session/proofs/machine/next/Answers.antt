use Rattle.std.specs.Prelude.{Option}
use mathlib.Core.Path.{◌∙◌, ap}
use Rattle.sedna.specs.declared.{Shape.Shape, Side.Side}
use Rattle.session.specs.Machine.{move_of, next}
use Rattle.session.proofs.machine.next.Goals as goal

pub returns : goal.returns
unfolding next
returns c =
    c.next_found.ensures ∙ ap (λ (f : Option (Side × Shape)). move_of f c.args.at c.args.version c.args.i) c.find.ensures
