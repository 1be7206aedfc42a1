use mathlib.Core.Path.{refl, sym, ap, ◌∙◌}
use Prim.Native.Nat.{◌+◌, ◌-◌}
use native.Mathlib.Omega.{arith}
use lib.ListN.{length, take, drop, length-drop}
use lib.Seq.{take_all}
use borrow.Author.Rules.{rules}
use borrow.Author.Tests.{leb-true}
use Rattle.wire.specs.Bytes.{splice}
use Rattle.wire.proofs.Splices.{start, last, put_at-fits}
use Rattle.basex_string.specs.Strings.{string}
use Rattle.basex_string.specs.inner.Runs.{run}
use Rattle.basex_string.proofs.Steps.{ahead-run}
use Rattle.basex_string.proofs.Parts.{string-part, ahead-part}
use Rattle.basex_string.proofs.Runs.{run-size, run-string, run-string-size}
use Rattle.basex_string.proofs.store_string.Goals as goal

pub loop-i-init : goal.loop-i-init
loop-i-init c =
    (refl, (search rules, start c.args.out.now c.args.at (string c.args.text.now) c.requires))

pub overflow_add-to : goal.overflow_add-to
overflow_add-to c =
    let s = c.args.text.now in
    let i = c.loop-i.i in
    let k = leb-true 16 (run (drop i s)) (sym c.plain_block.ensures ∙ c.if-plain_block.true) in
    let f = run-string-size s i (i + 16) (omega arith) (omega arith) (omega arith) in
    omega arith

pub loop-i-preserved-then-plain_block : goal.loop-i-preserved-then-plain_block
loop-i-preserved-then-plain_block c =
    let s = c.args.text.now in
    let i = c.loop-i.i in
    let k = leb-true 16 (run (drop i s)) (sym c.plain_block.ensures ∙ c.if-plain_block.true) in
    let z = run-size s i (i + 16) (omega arith) (omega arith) (omega arith) in (
      c.put_block.auto.out ∙ c.loop-i.invariant.0,
      (
        omega arith,
        ahead-run (take (i + 16 - i) (drop i s))
            (run-string s i (i + 16) (omega arith) (omega arith)) (c.loop-i.to + 16)
            c.loop-i.invariant.1.1 c.put_block.ensures (omega arith),
      ),
    )

pub store_few-to-requires : goal.store_few-to-requires
store_few-to-requires c =
    let s = c.args.text.now in
    let i = c.loop-i.i in
    let l = string-part (i + 16 - i) (drop i s) in
    omega arith

pub loop-i-preserved : goal.loop-i-preserved
loop-i-preserved c =
    let s = c.args.text.now in
    let i = c.loop-i.i in (
      c.store_few-to.auto.out ∙ c.loop-i.invariant.0,
      (
        omega arith,
        ahead-part s i (i + 16)
            c.store_few-to.result (omega arith) c.loop-i.invariant.1.1 c.store_few-to.ensures.1
            c.store_few-to.ensures.0,
      ),
    )

pub store_few-requires : goal.store_few-requires
store_few-requires c =
    let s = c.args.text.now in
    let i = c.loop-i.i in
    let l = string-part (length s - i) (drop i s) in
    omega arith

pub shape_of-out : goal.shape_of-out
shape_of-out c =
    c.store_few.auto.out ∙ c.loop-i.invariant.0

pub returns : goal.returns
returns c =
    let s = c.args.text.now in
    let i = c.loop-i.i in
    let l = length-drop i s in
    let a = c.loop-i.invariant.1.1 in
    last a (c.store_few.ensures.1 ∙ ap
    (λ (x : _). splice c.loop-i.out c.loop-i.to (string x))
    (take_all (length s - i) (drop i s) (omega arith)) ∙ sym (put_at-fits _ _ _ a.fits))
