use native.Mathlib.Omega.{arith}
use Rattle.records_printed.proofs.Decimals.{length_most}
use Rattle.records_printed.proofs.line.measure.Goals as goal

pub returns : goal.returns
returns c =
    let n = c.count_digits.ensures in
    let i = c.count_instruction.ensures in
    let x = c.count_digits-2.ensures.answers in
    record {
      answers = simp (n.answers, i.answers, x);
      short = omega (arith, n.short, i.short, length_most 2 c.args.answer (omega arith));
    }
