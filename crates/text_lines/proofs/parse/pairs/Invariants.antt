use Rattle.text_lines.proofs.Pairs.{Paired}
use mathlib.Core.Path.{◌≡◌}
use lib.ListN.{length}
use Rattle.text_lines.proofs.parse.pairs.Given as goal

abbrev pub invariant-loop-i : goal.invariant-loop-i
invariant-loop-i l = (length l.out ≡ length l.initial.out) × Paired l.initial.out l.n l.digits l.out l.i
