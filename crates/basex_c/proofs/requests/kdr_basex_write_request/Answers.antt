use mathlib.Core.Path.{ap, ◌∙◌}
use Rattle.answer_c.specs.Codes.{counted_code}
use Rattle.basex_c.proofs.requests.kdr_basex_write_request.Goals as goal

pub returns : goal.returns
returns c =
    record {
      answers = c.counted_code.ensures ∙ ap counted_code c.write_request.ensures.answers;
      leaves = c.write_request.ensures.leaves;
    }
