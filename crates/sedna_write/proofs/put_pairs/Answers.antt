use Rattle.std.proofs.Common.{◌≡◌}
use mathlib.Core.Logic.{inl, inr}
use mathlib.Core.Path.{refl, sym, ◌∙◌}
use native.Mathlib.Omega.{arith}
use lib.ListN.{length, drop}
use Rattle.wire.proofs.Ends.{part_length}
use Rattle.wire.proofs.Splices.{start, put_at-fits}
use Rattle.sedna.specs.Encode.{pairs_bytes}
use Rattle.sedna_write.specs.Pairs.{pairs_of, sum}
use Rattle.sedna_write.proofs.Given.{ahead-next, ahead-end, next_fits}
use Rattle.sedna_write.proofs.put_pairs.Goals as goal

pub loop-id-init : goal.loop-id-init
loop-id-init c =
    let a = c.args in
    let s = start a.out.now 8 (pairs_bytes (pairs_of a.ids.now a.lengths.now a.values.now)) c.requires.room in
    rw (c.into_iter-id-iterator.ensures.into_iter_gives, c.zip-id-items.ensures.first, c.iter.ensures.rest, c.zip-id-items.ensures.second.0) (refl, c.requires.even, omega (arith, c.requires.whole), s)

pub overflow_add-to : goal.overflow_add-to
unfolding sum
overflow_add-to c =
    let s = c.in-Some.ensures.steps in
    let v = rw s.1 at c.loop-id.invariant.2 in
    omega arith

pub slice_bounds-put_pair-end : goal.slice_bounds-put_pair-end
unfolding sum
slice_bounds-put_pair-end c =
    let s = c.in-Some.ensures.steps in
    let v = rw s.1 at c.loop-id.invariant.2 in
    omega arith

pub put_pair-requires : goal.put_pair-requires
unfolding sum
put_pair-requires c =
    let l = c.loop-id in
    let s = c.in-Some.ensures.steps in
    let v = rw s.1 at l.invariant.2 in
    let f = next_fits c.in-Some.id.now c.in-Some.n.now c.next.new.self.a.rest.now c.next.new.self.b.rest.now c.args.values.now l.from (omega arith) (rw (s.0, s.1) at l.invariant.3) in
    let n = part_length c.args.values.now l.from c.in-Some.n.now (omega arith) in
    (omega arith, omega arith)

pub loop-id-preserved : goal.loop-id-preserved
unfolding sum
loop-id-preserved c =
    let l = c.loop-id in
    let s = c.in-Some.ensures.steps in
    let e = rw (s.0, s.1) at l.invariant.1 in
    let v = rw s.1 at l.invariant.2 in
    let a = ahead-next c.in-Some.id.now c.in-Some.n.now c.next.new.self.a.rest.now c.next.new.self.b.rest.now c.args.values.now l.from (omega arith) (rw (s.0, s.1) at l.invariant.3)
    c.put_pair.ensures in
    (c.put_pair.auto.out ∙ l.invariant.0, omega arith, omega arith, a)

pub returns : goal.returns
returns c =
    let l = c.loop-id in
    let a = c.args in
    let none : length l.id-iterator.a.rest.now ≡ 0 = elim c.in-None.ensures.steps [ inl z ↦ z.1.0 | inr z ↦ l.invariant.1 ∙ z.1.0 ] in
    ahead-end l.id-iterator.a.rest.now l.id-iterator.b.rest.now (drop l.from a.values.now) none l.invariant.3
    ∙ sym (put_at-fits a.out.now 8 (pairs_bytes (pairs_of a.ids.now a.lengths.now a.values.now)) c.requires.room)
