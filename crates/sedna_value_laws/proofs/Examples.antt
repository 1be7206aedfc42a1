-- Each example is answered as it says.
use mathlib.Core.Path.{refl}
use lib.Ieee.{round, div, neg, of_int}
use Rattle.sedna_digits.specs.Digits.{run, kept, two_digits_at, behind_sign}
use Rattle.sedna_digits.specs.Numbers.{number}
use Rattle.sedna_instant.specs.Calendar.{years_to, months_to, days_before}
use Rattle.sedna_instant.specs.DateTimes.{year_of, marks_at, fraction_at, offset_at, zone_at, instant_of}
use Rattle.sedna_value.specs.Doubles.{decimal_at, special_of, exponent_at, double_of}
use Rattle.sedna_value.specs.Booleans.{boolean_of}
use Rattle.sedna_value.specs.Values.{value_of}
use Rattle.sedna_value.specs.Wholes.{signed_of, whole_of}
use Rattle.sedna_value_laws.specs.Examples.{table, Examples}

pub examples : Examples
unfolding table value_of instant_of double_of boolean_of whole_of signed_of run kept two_digits_at behind_sign number years_to months_to days_before year_of marks_at fraction_at offset_at zone_at decimal_at special_of exponent_at div neg of_int round
examples = refl
