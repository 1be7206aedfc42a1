use native.Mathlib.Omega.{arith}
use Rattle.basex_string.proofs.Steps.{string-length}
use Rattle.basex_string.proofs.string_len.Goals as goal

pub returns : goal.returns
returns c =
    omega (arith, string-length c.args.text.now)
