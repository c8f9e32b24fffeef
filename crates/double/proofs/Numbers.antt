-- The names of specs/Numbers are right: each equation is computed. Assumes nothing.
use mathlib.Core.Path.{refl}
use lib.Ieee.{of_bits}
use Rattle.double.specs.Numbers.{dec, pow2, NamesRight}

pub names_right : NamesRight
unfolding of_bits dec pow2
names_right = record {
  zero_right = refl;
  half_right = refl;
  n1_right = refl;
  three_halves_right = refl;
  n2_right = refl;
  n3_right = refl;
  n4_right = refl;
  n8_right = refl;
  n13_right = refl;
  n16_right = refl;
  n72_right = refl;
  n192_right = refl;
  n3072_right = refl;
  n61440_right = refl;
  n708_right = refl;
  n709_right = refl;
  pi_right = refl;
  epsilon_right = refl;
  root_epsilon_right = refl;
  first_tolerance_right = refl;
  second_tolerance_right = refl;
  largest_step_right = refl;
  smallest_normal_right = refl;
  house_step_right = refl;
  house_smallest_right = refl;
  first_start_right = refl;
  second_start_right = refl;
  third_start_right = refl;
}
