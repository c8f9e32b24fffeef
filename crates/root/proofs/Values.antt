-- Roots of written-out doubles, by computing: the square root of 2, and of the smallest double, whose digits are shifted the farthest.
-- Assumes nothing.
use mathlib.Core.Path.{◌≡◌, refl}
use lib.Count.{count_leading_zeros}
use lib.Ieee.{binary64, is_nan, size, span, climb, to_bits, of_bits}
use Rattle.double.specs.Fields.{shift, normal_of}
use Rattle.root.specs.Steps.{whole_root, round_root, near_root, root_of, sqrt_fields, sqrt_bits, sqrt_of}

pub of_two : sqrt_of (of_bits binary64 0x4000_0000_0000_0000) ≡ of_bits binary64 0x3ff6_a09e_667f_3bcd
unfolding sqrt_of sqrt_bits sqrt_fields root_of near_root whole_root round_root normal_of is_nan to_bits of_bits size span climb
of_two = refl

pub of-least : sqrt_of (of_bits binary64 1) ≡ of_bits binary64 0x1e60_0000_0000_0000
unfolding sqrt_of sqrt_bits sqrt_fields root_of near_root whole_root round_root normal_of shift count_leading_zeros is_nan to_bits of_bits size span climb
of-least = refl
