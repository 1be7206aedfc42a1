use mathlib.Core.Path.{refl, sym}
use native.Mathlib.Omega.{arith}
use Rattle.records_printed.specs.Line.{decimal_up_to}
use Rattle.records_printed.proofs.Decimals.{digits-of}
use Rattle.records_printed.proofs.decimal.count_digits.Goals as goal

pub returns-then-n-eq0 : goal.returns-then-n-eq0
unfolding decimal_up_to
returns-then-n-eq0 c =
    rw c.if-n-eq0.true (record { answers = refl; short = omega arith })

pub returns-else-n-eq0 : goal.returns-else-n-eq0
returns-else-n-eq0 c =
    let k = c.ilog10 in
    record {
      answers = sym (digits-of c.args.n k.result k.ensures.power_le k.ensures.next_power_gt);
      short = omega (arith, k.ensures.bound);
    }
