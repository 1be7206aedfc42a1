use native.Mathlib.Omega.{arith}
use Rattle.basex_string.proofs.Runs.{run-start}
use Rattle.basex_string.proofs.run_end.Goals as goal

pub returns : goal.returns
returns c =
    let a = c.args in
    let e = run-start a.s.now a.from c.skip_blocks-blocks.result (omega arith) (omega arith) in
    omega arith
