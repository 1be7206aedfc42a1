use Prim.Native.Nat.{◌+◌}
use mathlib.Core.Path.{◌≡◌, sym, ◌∙◌}
use native.Mathlib.Omega.{arith}
use lib.ListN.{length}
use Rattle.std.proofs.lemmas.Result.{err_from_is_err_and}
use Rattle.sedna_read.specs.inner.Cursor.{window}
use Rattle.sedna_read.proofs.Windows.{length-window}
use Rattle.sedna_read.proofs.Heads.{fields-refused, more-refused, out-of-order, in-order}
use Rattle.sedna_read.proofs.read_found.Goals as goal

pub returns-in_err-places : goal.returns-in_err-places
returns-in_err-places c =
    let a = c.args in
    let p = err_from_is_err_and c.from_residual-in_err-places.result c.from_residual-in_err-places.ensures.1 in
    p.1 ∙ rw p.2 (sym (fields-refused a.found a.side a.bytes.now _ _ c.in_ok-shape.ensures c.if-bytes-end.false a.in_order _ c.in_err-places.ensures))

pub returns-in_err-nothing_left : goal.returns-in_err-nothing_left
returns-in_err-nothing_left c =
    let a = c.args in
    let body = c.in_ok-places.ensures in
    let p = err_from_is_err_and c.from_residual-in_err-nothing_left.result c.from_residual-in_err-nothing_left.ensures.1 in
    p.1 ∙ rw p.2 (sym (more-refused a.found a.side a.bytes.now _ _ c.in_ok-shape.ensures c.if-bytes-end.false _ _ body.1 a.in_order _ c.in_err-nothing_left.ensures))

pub returns-then-not-in_order : goal.returns-then-not-in_order
returns-then-not-in_order c =
    let a = c.args in
    let body = c.in_ok-places.ensures in
    rw c.if-not-in_order.true (sym (out-of-order a.found a.side a.bytes.now _ _ c.in_ok-shape.ensures c.if-bytes-end.false _ _ body.1 c.in_ok-nothing_left.ensures))

pub returns : goal.returns
returns c =
    let a = c.args in
    let n = c.in_ok-shape.n in
    let body = c.in_ok-places.ensures in
    let l : length (window a.bytes.now 8 (8 + n)) ≡ n = length-window a.bytes.now 8 (8 + n) c.if-bytes-end.false ∙ omega arith in
    rw (c.if-not-in_order.false, c.get_int.ensures.0, body.2, l)
    (sym (in-order a.found a.side a.bytes.now _ _ c.in_ok-shape.ensures c.if-bytes-end.false _ _ body.1 c.in_ok-nothing_left.ensures))
