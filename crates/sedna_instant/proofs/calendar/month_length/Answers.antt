use mathlib.Core.Path.{sym, ◌∙◌}
use Rattle.sedna_instant.proofs.calendar.month_length.Goals as goal

pub returns-then-leap_year : goal.returns-then-leap_year
returns-then-leap_year c = rw (c.if-month-eq2.true, sym c.leap_year.ensures ∙ c.if-leap_year.true)

pub returns-else-leap_year : goal.returns-else-leap_year
returns-else-leap_year c = rw (c.if-month-eq2.true, sym c.leap_year.ensures ∙ c.if-leap_year.false)
