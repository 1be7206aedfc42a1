use mathlib.Core.Path.{sym, ◌∙◌}
use Rattle.std.proofs.Common.{arith}
use Rattle.std.proofs.lemmas.Grind.{common_steps}
use Rattle.sedna_instant.proofs.Readings.{no_year, no_clock, no_fraction, unformed, formed}
use Rattle.sedna_instant.proofs.read.instant.Goals as goal

pub returns-in_err-y : goal.returns-in_err-y
returns-in_err-y c = grind (arith, common_steps, no_year c.args.s.now)

pub returns-in_err-c : goal.returns-in_err-c
returns-in_err-c c = grind (arith, common_steps, no_clock c.args.s.now c.in_ok-y.y)

pub returns-in_err-f : goal.returns-in_err-f
returns-in_err-f c = grind (arith, common_steps, no_fraction c.args.s.now c.in_ok-y.y (sym c.year_of.ensures ∙ c.in_ok-y.ensures.ok_part) c.in_ok-c.c)

pub returns-then-not-formed : goal.returns-then-not-formed
returns-then-not-formed c =
    unformed _ _ (sym c.year_of.ensures ∙ c.in_ok-y.ensures.ok_part) _ (sym c.clock_at.ensures ∙ c.in_ok-c.ensures.ok_part)
    _ (sym c.fraction_at.ensures.answers ∙ c.in_ok-f.ensures.ok_part) (sym c.formed.ensures ∙ c.if-not-formed.true)

pub returns-in_err-zone_at : goal.returns-in_err-zone_at
returns-in_err-zone_at c =
    let h = formed _ _ (sym c.year_of.ensures ∙ c.in_ok-y.ensures.ok_part) _ (sym c.clock_at.ensures ∙ c.in_ok-c.ensures.ok_part)
    _ (sym c.fraction_at.ensures.answers ∙ c.in_ok-f.ensures.ok_part) (sym c.formed.ensures ∙ c.if-not-formed.false) _ (sym c.zone_at.ensures.answers ∙ c.in_err-zone_at.was) in
    grind (arith, common_steps, h)

pub returns : goal.returns
returns c =
    c.timed.ensures
    ∙ sym (formed _ _ (sym c.year_of.ensures ∙ c.in_ok-y.ensures.ok_part) _ (sym c.clock_at.ensures ∙ c.in_ok-c.ensures.ok_part)
    _ (sym c.fraction_at.ensures.answers ∙ c.in_ok-f.ensures.ok_part) (sym c.formed.ensures ∙ c.if-not-formed.false) _ (sym c.zone_at.ensures.answers ∙ c.in_ok-zone_at.was))
