use native.Mathlib.Omega.{arith}
use lib.ListN.{get_or-eq_default}
use mathlib.Core.List.{[]}
use Prim.Native.Nat.{◌≤◌}
use Rattle.session.specs.Machine.{server_move, server_rows}
use Rattle.session.proofs.server.answer_move.Goals as goal

pub returns-in_default : goal.returns-in_default
unfolding server_move
returns-in_default c =
    let past : 30 ≤ c.args.at = omega arith in rw (get_or-eq_default (server_rows c.args.version) [] past)
