use mathlib.Core.Path.{ap, ◌∙◌}
use Rattle.answer_c.specs.Codes.{counted_code}
use Rattle.basex_c.proofs.strings.kdr_basex_write_string.Goals as goal

pub returns : goal.returns
returns c =
    record {
      answers = c.counted_code.ensures ∙ ap counted_code c.write_string.ensures.answers;
      leaves = c.write_string.ensures.leaves;
    }
