use mathlib.Core.Path.{sym, ap, ◌∙◌}
use Prim.Native.Nat.{ℕ, ◌-◌, min}
use lib.ListN.{length, drop}
use Rattle.basex_string.proofs.Handed.{handed}
use Rattle.basex.specs.Texts.{texts, two_at}
use Rattle.basex_request.proofs.Judging.{two, strings-refused, others_refused, strings-well}
use Rattle.basex_request.proofs.strings_from.Goals as goal

pub returns-in_err-one : goal.returns-in_err-one
returns-in_err-one c =
    let a = c.args in
    handed _ c.from_residual.ensures.1 ∙ strings-refused a.bytes.now a.kind a.from a.n c.requires _ (sym c.in_err-one.was ∙ c.two_at.ensures)

pub returns-in_err-two : goal.returns-in_err-two
returns-in_err-two c =
    let a = c.args in
    let f = two a.bytes.now a.from (min a.n 2) _ (sym c.in_ok-one.was ∙ c.two_at.ensures) in
    let next = c.in_ok-one.one.next in
    let e = ap (λ (k : ℕ). two_at next (length a.bytes.now - next) (texts (min k 2) (drop next a.bytes.now))) c.saturating_sub.ensures in
    handed _ c.from_residual-in_err-two.ensures.1
    ∙ others_refused a.bytes.now a.kind a.from a.n c.requires _ f _ (sym c.in_err-two.was ∙ c.two_at-2.ensures ∙ e)

pub returns : goal.returns
returns c =
    let a = c.args in
    let f = two a.bytes.now a.from (min a.n 2) _ (sym c.in_ok-one.was ∙ c.two_at.ensures) in
    let next = c.in_ok-one.one.next in
    let e = ap (λ (k : ℕ). two_at next (length a.bytes.now - next) (texts (min k 2) (drop next a.bytes.now))) c.saturating_sub.ensures in
    let t = two a.bytes.now next (min (a.n - 2) 2) _ (sym c.in_ok-two.was ∙ c.two_at-2.ensures ∙ e) in
    strings-well a.bytes.now a.kind a.from a.n c.requires _ f _ t
