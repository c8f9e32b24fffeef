-- Roots of written-out doubles, by computing: 1 and 2 take five correction steps, so that no bound below five would hold; 1.5 takes four
-- and 0 none. Assumes nothing.
use mathlib.Core.Path.{◌≡◌, refl}
use lib.Ieee.{binary64, is_nan, size, span, climb, to_bits, of_bits}
use Rattle.double.specs.Fields.{normal_of}
use Rattle.double.specs.Numbers.{#0, #1, #2}
use Rattle.root.specs.reciprocal_table.Estimates.{estimates, place_of, estimate_of}
use Rattle.root.specs.table_root.Steps.{refined, reciprocal_of, first_of, addition, step_of, next_of, correction_of, corrected_of}
use Rattle.root.specs.table_root.Steps.{steps_of, whole_root_of, table_root_of, table_sqrt_fields, table_sqrt_bits, table_sqrt_of}

pub of_one : table_sqrt_of #1 ≡ record { root = #1; steps = 5 }
unfolding table_sqrt_of table_sqrt_bits table_sqrt_fields table_root_of whole_root_of steps_of corrected_of correction_of next_of step_of addition first_of
    reciprocal_of refined estimate_of estimates place_of normal_of is_nan to_bits of_bits size span climb
of_one = refl

pub of_two : table_sqrt_of #2 ≡ record { root = of_bits binary64 0x3ff6_a09e_667f_3bcd; steps = 5 }
unfolding table_sqrt_of table_sqrt_bits table_sqrt_fields table_root_of whole_root_of steps_of corrected_of correction_of next_of step_of addition first_of
    reciprocal_of refined estimate_of estimates place_of normal_of is_nan to_bits of_bits size span climb
of_two = refl

pub of_three_halves :
    table_sqrt_of (of_bits binary64 0x3ff8_0000_0000_0000) ≡ record { root = of_bits binary64 0x3ff3_988e_1409_212e; steps = 4 }
unfolding table_sqrt_of table_sqrt_bits table_sqrt_fields table_root_of whole_root_of steps_of corrected_of correction_of next_of step_of addition first_of
    reciprocal_of refined estimate_of estimates place_of normal_of is_nan to_bits of_bits size span climb
of_three_halves = refl

pub of_zero : table_sqrt_of #0 ≡ record { root = #0; steps = 0 }
unfolding table_sqrt_of table_sqrt_bits table_sqrt_fields is_nan to_bits of_bits size span climb
of_zero = refl
