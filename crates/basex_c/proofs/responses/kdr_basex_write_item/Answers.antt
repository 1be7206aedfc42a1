use mathlib.Core.Path.{ap, ◌∙◌}
use Rattle.answer_c.specs.Codes.{counted_code}
use Rattle.basex_c.proofs.responses.kdr_basex_write_item.Goals as goal

pub returns : goal.returns
returns c =
    record { answers = c.counted_code.ensures ∙ ap counted_code c.write_item.ensures.answers; leaves = c.write_item.ensures.leaves }
