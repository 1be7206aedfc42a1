use Rattle.std.specs.Prelude.{Ok}
use mathlib.Core.Path.{◌≡◌, sym, ap, ◌∙◌}
use Prim.Native.Nat.{◌+◌, ◌-◌}
use native.Mathlib.Omega.{arith}
use lib.ListN.{length, drop}
use Rattle.basex_string.proofs.Handed.{handed}
use Rattle.basex_response.specs.Items.{list}
use Rattle.basex_response.specs.inner.Judging.{items_at}
use Rattle.basex_response.proofs.Lists.{item-size}
use Rattle.basex_response.proofs.Walk.{here, walk_refused, walk_end, walk_item, after, after_none, after_one}
use Rattle.basex_response.proofs.items.items_at.Goals as goal

pub loop-next-init : goal.loop-next-init
loop-next-init c =
    let a = c.args in (omega arith, omega arith, after_none (items_at a.at (length a.bytes.now - a.at) (list a.full (drop a.at a.bytes.now))))

pub returns-in_err-next : goal.returns-in_err-next
returns-in_err-next c =
    let a = c.args in
    let l = c.loop-next in
    handed _ c.from_residual.ensures.1 ∙ sym (l.invariant.2 ∙ ap (after l.count l.listed) (walk_refused a.full a.bytes.now l.from _ (sym c.item_at.ensures ∙ c.in_err-next.was)))

pub returns-in-End : goal.returns-in-End
returns-in-End c =
    let a = c.args in
    let l = c.loop-next in
    let n : l.count + 0 ≡ l.count = omega arith in
    let m : l.listed + 0 ≡ l.listed = omega arith in
    sym (l.invariant.2 ∙ ap (after l.count l.listed) (walk_end a.full a.bytes.now l.from _ (sym c.item_at.ensures ∙ c.in_ok-next.was ∙ ap Ok c.in-End.is)) ∙ cc (n, m))

pub overflow_add-count : goal.overflow_add-count
overflow_add-count c =
    let i = c.in-Item in
    let h = here c.args.full c.args.bytes.now c.loop-next.from i.id i.uri i.text i.next (sym c.item_at.ensures ∙ c.in_ok-next.was ∙ ap Ok i.is) in
    let e = h.ends in let s = h.sum in omega (arith, item-size h.item)

pub overflow_add-listed : goal.overflow_add-listed
overflow_add-listed c =
    let i = c.in-Item in
    let h = here c.args.full c.args.bytes.now c.loop-next.from i.id i.uri i.text i.next (sym c.item_at.ensures ∙ c.in_ok-next.was ∙ ap Ok i.is) in
    let e = h.ends in let s = h.sum in let z = h.sizes in omega (arith, item-size h.item)

pub overflow_add-listed-in-Item : goal.overflow_add-listed-in-Item
overflow_add-listed-in-Item c =
    let i = c.in-Item in
    let h = here c.args.full c.args.bytes.now c.loop-next.from i.id i.uri i.text i.next (sym c.item_at.ensures ∙ c.in_ok-next.was ∙ ap Ok i.is) in
    let e = h.ends in let s = h.sum in let z = h.sizes in omega (arith, item-size h.item)

pub loop-next-smaller : goal.loop-next-smaller
loop-next-smaller c =
    let i = c.in-Item in
    let h = here c.args.full c.args.bytes.now c.loop-next.from i.id i.uri i.text i.next (sym c.item_at.ensures ∙ c.in_ok-next.was ∙ ap Ok i.is) in
    let e = h.ends in let s = h.sum in omega (arith, item-size h.item)

pub loop-next-preserved : goal.loop-next-preserved
loop-next-preserved c =
    let a = c.args in
    let l = c.loop-next in
    let i = c.in-Item in
    let h = here a.full a.bytes.now l.from i.id i.uri i.text i.next (sym c.item_at.ensures ∙ c.in_ok-next.was ∙ ap Ok i.is) in
    let e = h.ends in
    let s = h.sum in
    let z = h.sizes in
    let x = item-size h.item in (
      omega arith,
      omega arith,
      l.invariant.2 ∙ ap (after l.count l.listed) (walk_item a.full a.bytes.now l.from _ _ _ h)
          ∙ after_one l.count l.listed (i.uri + i.text) (items_at i.next (length a.bytes.now - i.next) (list a.full (drop i.next a.bytes.now))),
    )
