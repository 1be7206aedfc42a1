use mathlib.Core.Path.{refl, subst, sym, ap, ◌∙◌}
use Prim.Native.Nat.{◌+◌, ◌≤◌}
use native.Mathlib.Omega.{arith}
use lib.ListN.{length, drop, length-set}
use Rattle.wire.proofs.Splices.{Ahead, start, last}
use Rattle.basex_string.specs.Strings.{string}
use Rattle.basex_string.proofs.Steps.{string-length, string-end, string-special, string-plain, put_one, ahead-pair, ahead-over}
use Rattle.basex_string.proofs.store_few.Goals as goal
use Rattle.basex_string.proofs.store_few.Goals.{else-is_special, then-is_special}

pub loop-b-init : goal.loop-b-init
loop-b-init c =
    (refl, start c.args.out.now c.args.at (string c.args.part.now) c.requires)

pub bounds-out-to : goal.bounds-out-to
bounds-out-to c =
    let n = string-length (drop c.loop-b.b-index c.args.part.now) in
    omega arith

pub bounds-out-to-2 : goal.bounds-out-to-2
bounds-out-to-2 c =
    let n = string-length (drop c.loop-b.b-index c.args.part.now) in
    omega arith

pub returns : goal.returns
returns c =
    let e = string-end c.args.part.now c.loop-b.b-index (omega arith) in
    let l = ap length e in
    (omega arith, last (subst (Ahead _ _ _) e c.loop-b.invariant.1) (put_one _ _ 0 (omega arith)))

pub bounds-out-to-in-loop-b : goal.bounds-out-to-in-loop-b
bounds-out-to-in-loop-b c =
    let s = c.args.part.now in
    let i = c.loop-b.b-index in
    let n = string-length (drop i s) in
    let e = sym c.is_special.ensures in
    let k : c.if-is_special.to + 1 ≤ c.loop-b.to + length (string (drop i s)) = elim c.if-is_special.branch [
      | then-is_special w ↦ let l = ap length (string-special s i (omega arith) (e ∙ w.if-is_special.true)) in omega arith
      | else-is_special w ↦ omega arith
    ] in
    simp length-set (omega arith)

pub loop-b-preserved : goal.loop-b-preserved
loop-b-preserved c =
    let s = c.args.part.now in
    let i = c.loop-b.b-index in
    let n = string-length (drop i s) in
    let e = sym c.is_special.ensures in
    let v = c.loop-b.invariant in
    elim c.if-is_special.branch [
      | then-is_special w ↦ let f = string-special s i (omega arith) (e ∙ w.if-is_special.true) in let l = ap length f in (omega arith, ahead-pair c.if-is_special.to f v.1 w.to-is)
      | else-is_special w ↦ let f = string-plain s i (omega arith) (e ∙ w.if-is_special.false) in let l = ap length f in (omega arith, ahead-over c.if-is_special.to f v.1 w.to-is)
    ]
