use mathlib.Core.Path.{◌≡◌, sym, ◌∙◌}
use Prim.Native.Nat.{suc, ◌-◌, min}
use native.Mathlib.Omega.{arith}
use Rattle.basex_string.proofs.Handed.{handed}
use Rattle.basex.proofs.Places.{here, not_here, none_told, refused-told, one_told, second-refused, two-told}
use Rattle.basex.proofs.two_at.Goals as goal

pub returns-then-n-eq0 : goal.returns-then-n-eq0
returns-then-n-eq0 c =
    let a = c.args in
    rw c.if-n-eq0.true (none_told a.bytes.now a.at)

pub returns-in_err-one : goal.returns-in_err-one
returns-in_err-one c =
    let a = c.args in
    let e = not_here a.bytes.now a.at _ (sym c.string_at.ensures ∙ c.in_err-one.was) in
    let m : min a.n 2 ≡ suc (min a.n 2 - 1) = let z = c.if-n-eq0.false in omega arith in
    rw (handed _ c.from_residual.ensures.1, m) (refused-told a.bytes.now a.at _ (min a.n 2 - 1) e)

pub returns-then-n-eq1 : goal.returns-then-n-eq1
returns-then-n-eq1 c =
    let a = c.args in
    rw c.if-n-eq1.true (one_told a.bytes.now a.at _ _ (here a.bytes.now a.at _ (sym c.string_at.ensures ∙ c.in_ok-one.was)))

pub returns-in_err-two : goal.returns-in_err-two
returns-in_err-two c =
    let a = c.args in
    let h = here a.bytes.now a.at _ (sym c.string_at.ensures ∙ c.in_ok-one.was) in
    let m : min a.n 2 ≡ 2 = let z = c.if-n-eq0.false in let y = c.if-n-eq1.false in omega arith in
    rw (handed _ c.from_residual-in_err-two.ensures.1, m)
    (second-refused a.bytes.now a.at _ _ h _ (not_here a.bytes.now c.in_ok-one.one.next _ (sym c.string_at-2.ensures ∙ c.in_err-two.was)))

pub returns : goal.returns
returns c =
    let a = c.args in
    let h = here a.bytes.now a.at _ (sym c.string_at.ensures ∙ c.in_ok-one.was) in
    let m : min a.n 2 ≡ 2 = let z = c.if-n-eq0.false in let y = c.if-n-eq1.false in omega arith in
    rw m (two-told a.bytes.now a.at _ _ h _ _ (here a.bytes.now c.in_ok-one.one.next _ (sym c.string_at-2.ensures ∙ c.in_ok-two.was)))
