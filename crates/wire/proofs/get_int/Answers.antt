use Rattle.std.proofs.Common.{◌≡◌, ◌∙◌, sym, ◌+◌, ◌*◌, slice_index_or}
use native.Mathlib.Omega.{arith}
use Rattle.wire.proofs.Ints.{join, int_at-there, int_at-short}
use Rattle.wire.proofs.get_int.Goals as goal

pub returns-then-n-lt4 : goal.returns-then-n-lt4
returns-then-n-lt4 c = (sym (int_at-short c.args.s.now c.args.at (omega arith)), omega arith)

pub returns-then-n-at : goal.returns-then-n-at
returns-then-n-at c = (sym (int_at-short c.args.s.now c.args.at (omega arith)), omega arith)

pub returns : goal.returns
returns c =
    let a = slice_index_or c.args.s.now c.args.at 0 in
    let b = slice_index_or c.args.s.now (c.args.at + 1) 0 in
    let e = slice_index_or c.args.s.now (c.args.at + 2) 0 in
    let f = slice_index_or c.args.s.now (c.args.at + 3) 0 in
    let p : a * 16777216 + b * 65536 + e * 256 + f ≡ join a b e f = omega arith in
    (c.from_be_bytes.ensures ∙ p ∙ sym (int_at-there c.args.s.now c.args.at (omega arith)), c.from_be_bytes.type_inv)
