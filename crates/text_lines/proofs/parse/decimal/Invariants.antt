use mathlib.Core.Path.{◌≡◌}
use Prim.Native.Nat.{◌≤◌}
use lib.ListN.{drop}
use Rattle.text_lines.specs.Numbers.{decimal_of}
use Rattle.text_lines.proofs.Digits.{judged}
use Rattle.text_lines.proofs.parse.decimal.Given as goal

abbrev pub invariant-loop-b : goal.invariant-loop-b
invariant-loop-b l = (l.n ≤ 4294967295) × (decimal_of l.text ≡ judged l.n (drop l.b-index l.text))
