use mathlib.Core.List.{List}
use mathlib.Core.Path.{◌≡◌, sym, ap, ◌∙◌}
use Prim.Native.Nat.{ℕ, suc, ◌-◌, ◌+◌}
use native.Mathlib.Omega.{arith}
use lib.ListN.{length, drop, length-drop}
use Rattle.basex.specs.Texts.{TextsStored, texts_stored}
use Rattle.basex.proofs.Places.{one_more}
use Rattle.basex.proofs.store_judged_texts.Goals as goal

pub loop-init : goal.loop-init
loop-init c =
    let a = c.args in
    let z : a.n ≡ a.n - 0 = omega arith in
    ((omega arith, omega arith), ap (λ (m : ℕ). texts_stored m a.out.now a.to (drop a.at a.bytes.now)) z)

pub loop-preserved : goal.loop-preserved
loop-preserved c =
    let a = c.args in
    let l = c.loop in
    let p = c.store_judged_text-put in
    let k : ℕ = a.n - (l.counter + 1) in
    let s : a.n - l.counter ≡ suc k = let t = c.loop-test.true in omega arith in
    let v = l.invariant.1 ∙ ap (λ (m : ℕ). texts_stored m l.out l.end (drop l.from a.bytes.now)) s in
    let w = one_more a.bytes.now l.out l.from l.end k p.result p.ensures.answers in (
      (omega arith, omega arith),
      v ∙ w.2
          ∙ ap (λ (m : List ℕ). texts_stored k m p.result.to (drop p.result.next a.bytes.now)) (sym p.ensures.leaves),
    )

pub returns : goal.returns
unfolding texts_stored
returns c =
    let a = c.args in
    let l = c.loop in
    let s : a.n - l.counter ≡ 0 = let t = c.loop-test.false in omega arith in
    let u = l.invariant.1 ∙ ap (λ (m : ℕ). texts_stored m l.out l.end (drop l.from a.bytes.now)) s in
    let d = length-drop l.from a.bytes.now in
    let e : l.from ≡ a.at + (length a.bytes.now - a.at - length (drop l.from a.bytes.now)) = let f = l.invariant.0 in omega arith in
    record { answers = rw u (ap (λ (m : ℕ). record { next = m; to = l.end }) e); leaves = sym (ap (λ (m : TextsStored). m.out) u) }
