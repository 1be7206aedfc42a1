use Rattle.std.specs.Prelude.{Option}
use Rattle.sedna.specs.declared.{Side.Side, Shape.Shape}
use mathlib.Core.Path.{◌∙◌, ap}
use Rattle.sedna.specs.Table.{find_of}
use Rattle.sedna_read.specs.Places.{head_at}
use Rattle.sedna_read.specs.Reading.{heading, heading_by}
use Rattle.sedna_read.proofs.judge_head.Goals as goal

pub returns : goal.returns
unfolding heading
returns c =
    let a = c.args in
    let found = c.find.ensures ∙ ap find_of c.get_int.ensures.0 in
    c.judge_found.ensures ∙ ap (λ (f : Option (Side × Shape)). head_at (heading_by f a.side a.bytes.now)) found
