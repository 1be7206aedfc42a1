use Prim.Native.Nat.{suc, ◌+◌, ◌-◌}
use mathlib.Core.Path.{◌≡◌, sym, ap, ◌∙◌}
use native.Mathlib.Omega.{arith}
use Rattle.sedna_read.specs.Places.{option_at}
use Rattle.sedna_read.proofs.Pairs.{option-here, option-ahead, option-missing, option_past}
use Rattle.sedna_read.proofs.Windows.{clipped}
use Rattle.sedna_read.proofs.option_at.Goals as goal

pub returns-then-bytes-at : goal.returns-then-bytes-at
returns-then-bytes-at c =
    let a = c.args in
    sym (option_past a.k a.bytes.now a.pairs.start a.pairs.len c.if-bytes-at.true)

pub loop-init : goal.loop-init
loop-init c =
    let a = c.args in
    let e : a.k - 0 ≡ a.k = omega arith in
    rw e (ap (option_at a.k a.pairs.start) (clipped a.bytes.now a.pairs.start a.pairs.len (a.pairs.start + c.min.result) c.if-bytes-at.false (omega arith)))

pub returns-in_err-ok : goal.returns-in_err-ok
returns-in_err-ok c =
    let l = c.loop in
    let e : c.args.k - l.counter ≡ suc (c.args.k - (l.counter + 1)) = omega arith in
    c.from_residual.ensures ∙ sym (l.invariant ∙ rw e (option-missing l.fields c.pair.new.self c.pair.result c.pair.ensures (sym c.in_err-ok.ensures.value) (c.args.k - (l.counter + 1))))

pub loop-preserved : goal.loop-preserved
loop-preserved c =
    let l = c.loop in
    let e : c.args.k - l.counter ≡ suc (c.args.k - (l.counter + 1)) = omega arith in
    l.invariant ∙ rw e (option-ahead l.fields c.pair.new.self c.pair.result c.pair.ensures _ c.in_ok-ok.ensures.value (c.args.k - (l.counter + 1)))

pub returns : goal.returns
returns c =
    let l = c.loop in
    let e : c.args.k - l.counter ≡ 0 = omega arith in
    c.ok-2.ensures.value ∙ option-here l.fields c.pair-2.new.self c.pair-2.result c.pair-2.ensures ∙ sym (l.invariant ∙ rw e)
