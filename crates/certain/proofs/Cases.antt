-- The theorem's hypotheses can be met: rows a and c of the border table go through it, and a no on the residue. All three are computed.
-- Assumes nothing.
use mathlib.Core.Path.{refl}
use Prim.Native.Nat.{◌<◌}
use native.Mathlib.Omega.{arith}
use lib.Dec.{leb→le}
use lib.Count.{count_trailing_zeros, count_leading_zeros}
use lib.Ieee.{fits, neg, add, sub, mul, div, lt, ne, is_nan, of_bits, to_bits, of_fields, of_int, round, size, units, odd, span, climb}
use Rattle.arith.specs.Turns.{iter}
use Rattle.double.specs.Numbers.{#0, #1}
use Rattle.double.specs.Sizes.{abs_of}
use Rattle.double.specs.Fields.{mag, shift, normal_of}
use Rattle.series.specs.change.SignedArithmetic.{BelowZero}
use Rattle.logarithm.specs.table.Table.{table}
use Rattle.logarithm.specs.Steps.{upper, ratio_of, short_series_of, mantissa_of, scaled_of, positive_of, by_field_of, log_of}
use Rattle.cone.specs.verdict.Answers.{told_of}
use Rattle.certain.specs.Coordinates.{InRange, Point}
use Rattle.certain.specs.Primal as primal
use Rattle.certain.specs.Dual as dual
use Rattle.certain.proofs.Meaning.{meaning}

one : InRange #1
unfolding of_bits of_fields odd count_trailing_zeros
one = record { finite_number = tt; most = leb→le _ _ tt; least = λ p. leb→le _ _ tt }

minus_one : InRange (neg #1)
unfolding neg of_bits of_fields odd count_trailing_zeros
minus_one = record { finite_number = tt; most = leb→le _ _ tt; least = λ p. leb→le _ _ tt }

-- "zero or ..": nothing is asked of a zero from below
none : InRange #0
unfolding of_bits of_fields odd count_trailing_zeros
none = record { finite_number = tt; most = leb→le _ _ tt; least = λ p. absurd (not-above p) }
  where
    not-above : 0 < 0 → ⊥
    not-above p = omega arith

point_a : Point (neg #1) #1 #1
unfolding fits neg of_bits of_fields odd count_trailing_zeros
point_a = record { first_double = tt; second_double = tt; third_double = tt; first = minus_one; second = one; third = one }

point_c : Point (neg #1) #0 #1
unfolding fits neg of_bits of_fields odd count_trailing_zeros
point_c = record { first_double = tt; second_double = tt; third_double = tt; first = minus_one; second = none; third = one }

ones : Point #1 #1 #1
unfolding fits of_bits of_fields odd count_trailing_zeros
ones = record { first_double = tt; second_double = tt; third_double = tt; first = one; second = one; third = one }

-- row a, "exponential primal (-1,1,1) yes"
pub row_a_inside : primal.Inside (neg #1) #1 #1
unfolding told_of abs_of iter log_of by_field_of positive_of normal_of scaled_of mantissa_of short_series_of ratio_of upper table
    mag shift add sub mul div neg lt ne is_nan to_bits of_bits of_fields of_int round size units odd span climb count_trailing_zeros count_leading_zeros
row_a_inside = meaning.primal_yes (neg #1) #1 #1 point_a refl

-- row c, "exponential dual (-1,0,1) yes"
pub row_c_inside : dual.Inside (neg #1) #0 #1
unfolding told_of abs_of iter log_of by_field_of positive_of normal_of scaled_of mantissa_of short_series_of ratio_of upper table
    mag shift add sub mul div neg lt ne is_nan to_bits of_bits of_fields of_int round size units odd span climb count_trailing_zeros count_leading_zeros
row_c_inside = meaning.dual_yes (neg #1) #0 #1 point_c refl

-- 1·log 1 - 1
pub ones_below : BelowZero (primal.number #1 #1 #1)
unfolding told_of abs_of iter log_of by_field_of positive_of normal_of scaled_of mantissa_of short_series_of ratio_of upper table
    mag shift add sub mul div neg lt ne is_nan to_bits of_bits of_fields of_int round size units odd span climb count_trailing_zeros count_leading_zeros
ones_below = meaning.primal_no #1 #1 #1 ones refl refl
