-- How great the numbers of a decimal are, so that no sum wraps and each is a double exactly.
use Rattle.std.specs.Prelude.{◌+◌, ◌^◌, ◌≤◌, ◌<◌}
use Rattle.sedna_value.specs.declared.doubles.Decimal.{Decimal}

-- few digits, and numbers that have no more than were counted
pub record FewDigits (d : Decimal) : Type 0 where
  pub few : d.before + d.behind ≤ 15
  pub whole_fits : d.whole < 10 ^ d.before
  pub fraction_fits : d.fraction < 10 ^ d.behind

abbrev pub DecimalFits : Decimal → Type 0
DecimalFits d = d.before + d.behind ≤ 15 → FewDigits d
