use Rattle.std.proofs.Common.{◌≤◌, length}
use Rattle.text_lines.proofs.input.fill.Given as goal

abbrev pub invariant-loop : goal.invariant-loop
invariant-loop g l = l.n ≤ length l.buffer
