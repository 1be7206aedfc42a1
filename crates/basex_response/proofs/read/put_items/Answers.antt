use mathlib.Core.Path.{refl}
use Prim.Native.Nat.{◌-◌, ◌+◌}
use native.Mathlib.Omega.{arith}
use borrow.Author.Rules.{rules}
use Rattle.basex_response.proofs.Storing.{going_start, going_inside, going_on, going_done}
use Rattle.basex_response.proofs.read.put_items.Goals as goal

pub loop-init : goal.loop-init
loop-init c =
    let a = c.args in
    (search rules, refl, search rules, going_start a.full a.bytes.now a.at a.count _ a.out.now a.to c.requires (omega arith))

pub bounds-bytes-from : goal.bounds-bytes-from
bounds-bytes-from c =
    going_inside _ _ _ _ _ _ _ c.loop.invariant.3

pub overflow_add-from : goal.overflow_add-from
overflow_add-from c =
    let h = going_inside _ _ _ _ _ _ _ c.loop.invariant.3 in omega arith

pub loop-preserved : goal.loop-preserved
loop-preserved c =
    let a = c.args in
    let l = c.loop in
    let h = c.loop-test.true in
    let g = going_on _ _ _ _ _ _ _ l.invariant.3 _ c.item_strings-n.ensures _ _
    c.store_judged_texts-put.ensures.answers c.store_judged_texts-put.ensures.leaves (a.count - (l.counter + 1)) (omega arith) in
    (omega arith, search rules, (let w = g.1 in omega arith), g.0)

pub overflow_add-result : goal.overflow_add-result
overflow_add-result c =
    let h = going_inside _ _ _ _ _ _ _ c.loop.invariant.3 in omega arith

pub returns : goal.returns
returns c =
    let a = c.args in
    let l = c.loop in
    going_done _ _ _ _ _ _ _ l.invariant.3 a.at l.invariant.2 (let t = c.loop-test.false in omega arith)
