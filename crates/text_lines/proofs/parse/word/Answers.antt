use mathlib.Core.Path.{sym, ap, ◌∙◌}
use Rattle.text_lines.specs.Numbers.{decimal_of}
use Rattle.text_lines.proofs.Fronts.{refuses, found, lost}
use Rattle.text_lines.proofs.Texts.{word_lost, word_plain, word_uncounted, word_counted}
use Rattle.text_lines.proofs.parse.word.Goals as goal

pub returns-in_err-m : goal.returns-in_err-m
returns-in_err-m c =
    let a = c.args in
    rw c.from_residual.ensures (refuses (word_lost a.out.now a.n a.text.now c.front-digits.ensures.0 (lost _ c.pairs.ensures c.in_err-m.was)))

pub returns-then-digits-text : goal.returns-then-digits-text
returns-then-digits-text c =
    let a = c.args in
    word_plain a.out.now a.n a.text.now c.front-digits.ensures.0 (found _ c.pairs.ensures c.in_ok-m.was) c.if-digits-text.true

pub returns-in_err-times : goal.returns-in_err-times
returns-in_err-times c =
    let a = c.args in
    let e = ap decimal_of (sym c.behind.ensures) ∙ sym c.decimal.ensures ∙ c.in_err-times.was in
    rw c.from_residual-in_err-times.ensures
    (refuses (word_uncounted a.out.now a.n a.text.now c.front-digits.ensures.0 (found _ c.pairs.ensures c.in_ok-m.was) c.if-digits-text.false e))

pub returns : goal.returns
returns c =
    let a = c.args in
    let e = ap decimal_of (sym c.behind.ensures) ∙ sym c.decimal.ensures ∙ c.in_ok-times.was in
    word_counted a.out.now a.n a.text.now c.front-digits.ensures.0 (found _ c.pairs.ensures c.in_ok-m.was) c.if-digits-text.false e c.repeat.ensures
