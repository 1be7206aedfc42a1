use native.Mathlib.Omega.{arith}
use Rattle.records_printed.proofs.Decimals.{length_most}
use mathlib.Core.Path.{sym, ap, ◌∙◌}
use Prim.Native.Nat.{ℕ}
use lib.ListN.{length}
use Rattle.records_printed.specs.Line.{decimal}
use Rattle.records_printed.proofs.Lines.{instruction-some}
use Rattle.records_printed.proofs.line.count_instruction.Goals as goal

pub returns-else-payload-lt4 : goal.returns-else-payload-lt4
returns-else-payload-lt4 c =
    record {
      answers =
          c.count_digits.ensures.answers ∙ ap (λ (n : ℕ). length (decimal n)) c.get_int.ensures.0
          ∙ sym (ap length (instruction-some c.args.payload.now c.if-payload-lt4.false));
      short = let k = c.count_digits.ensures.answers in omega (arith, length_most 9 c.get_int.result (omega arith));
    }
