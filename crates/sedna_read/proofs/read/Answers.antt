use Rattle.std.specs.Prelude.{Option}
use Rattle.sedna.specs.declared.{Side.Side, Shape.Shape}
use mathlib.Core.Path.{◌∙◌, ap}
use Rattle.sedna.specs.Table.{find_of}
use Rattle.sedna_read.specs.Places.{located}
use Rattle.sedna_read.specs.Reading.{reading, reading_by}
use Rattle.sedna_read.proofs.Heads.{always}
use Rattle.sedna_read.proofs.read.Goals as goal

pub returns : goal.returns
unfolding reading
returns c =
    let a = c.args in
    let f = c.find in
    let found = f.ensures ∙ ap find_of c.get_int.ensures.0 in
    c.read_found.ensures
    ∙ ap located (always (reading_by f.result a.side a.bytes.now))
    ∙ ap (λ (f : Option (Side × Shape)). located (reading_by f a.side a.bytes.now)) found
