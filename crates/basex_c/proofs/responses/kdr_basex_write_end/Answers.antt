use mathlib.Core.Path.{ap, ◌∙◌}
use Rattle.answer_c.specs.Codes.{counted_code}
use Rattle.basex_c.proofs.responses.kdr_basex_write_end.Goals as goal

pub returns : goal.returns
returns c =
    record { answers = c.counted_code.ensures ∙ ap counted_code c.write_end.ensures.answers; leaves = c.write_end.ensures.leaves }
