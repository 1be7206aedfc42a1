use mathlib.Core.Path.{refl}
use native.Mathlib.Omega.{arith}
use lib.ListN.{length-set}
use Rattle.records_printed.specs.Line.{decimal}
use Rattle.records_printed.proofs.Decimals.{none_written, one_written, all-written}
use Rattle.records_printed.proofs.decimal.put_digits.Goals as goal

pub loop-i-init : goal.loop-i-init
loop-i-init c =
    (refl, none_written c.args.out.now c.args.at c.args.n c.args.count c.requires.counted)

pub loop-i-preserved : goal.loop-i-preserved
loop-i-preserved c =
    let l = c.loop-i in (
      simp length-set l.invariant.0,
      one_written c.args.out.now _ (decimal c.args.n) c.args.at l.i l.rest (omega arith) (omega arith) (omega arith) l.invariant.1,
    )

pub returns : goal.returns
returns c =
    let l = c.loop-i in
    all-written c.args.out.now _ (decimal c.args.n) c.args.at l.i l.rest (omega arith) (omega arith) l.invariant.1
