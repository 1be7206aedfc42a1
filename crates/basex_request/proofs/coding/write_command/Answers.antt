use mathlib.Core.Path.{sym, ◌∙◌}
use Rattle.basex_request.proofs.Puts.{command-put}
use Rattle.basex_request.proofs.coding.write_command.Goals as goal

pub returns : goal.returns
returns c =
    command-put c.args.out.now c.args.text.now (sym c.opens_command.ensures ∙ c.if-not-opens_command.false) c.write_string.ensures
