use native.Mathlib.Omega.{arith}
use mir.Facts.{yes_leb}
use lib.Ieee.{in_float}
use Rattle.sedna_value.proofs.Decimals.{all_exact, scale_exact}
use Rattle.sedna_value.proofs.doubles.quotient_of.Goals as goal

pub overflow_mul-all : goal.overflow_mul-all
overflow_mul-all c =
    omega (arith, all_exact c.requires c.power-scale.ensures)

pub overflow_add-all : goal.overflow_add-all
overflow_add-all c =
    omega (arith, all_exact c.requires c.power-scale.ensures)

pub int_to_float-result : goal.int_to_float-result
unfolding in_float
int_to_float-result c =
    yes_leb (all_exact c.requires c.power-scale.ensures)

pub int_to_float-result-2 : goal.int_to_float-result-2
unfolding in_float
int_to_float-result-2 c =
    yes_leb (scale_exact c.requires c.power-scale.ensures)
