use Prim.Native.Nat.{◌+◌}
use native.Mathlib.Omega.{arith}
use Rattle.wire.proofs.Ends.{part_length}
use Rattle.basex_string.proofs.Steps.{specials-end, specials-next, specials-within}
use Rattle.basex_string.proofs.count.count_specials.Goals as goal

pub count_few-n-requires : goal.count_few-n-requires
count_few-n-requires c =
    let l = part_length c.args.text.now c.loop-i.i c.min.result (omega arith) in
    omega arith

pub overflow_add-n : goal.overflow_add-n
overflow_add-n c =
    let s = c.args.text.now in
    let i = c.loop-i.i in
    let e = specials-next s i (i + c.min.result) (omega arith) in
    let w = specials-within s in
    omega arith

pub loop-i-preserved : goal.loop-i-preserved
loop-i-preserved c =
    let s = c.args.text.now in
    let i = c.loop-i.i in
    let e = specials-next s i (i + c.min.result) (omega arith) in
    omega arith

pub returns : goal.returns
returns c =
    let s = c.args.text.now in
    let e = specials-end s c.loop-i.i c.loop-i-test.false in
    let w = specials-within s in
    omega arith
