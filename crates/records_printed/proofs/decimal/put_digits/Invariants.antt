use mathlib.Core.Path.{◌≡◌}
use lib.ListN.{length}
use Rattle.records_printed.specs.Line.{decimal}
use Rattle.records_printed.proofs.Decimals.{Written}
use Rattle.records_printed.proofs.decimal.put_digits.Given as goal

abbrev pub invariant-loop-i : goal.invariant-loop-i
invariant-loop-i l = (length l.out ≡ length l.initial.out) × Written l.initial.out l.out (decimal l.n) l.at l.i l.rest
