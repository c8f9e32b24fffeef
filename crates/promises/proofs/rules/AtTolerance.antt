-- The sums at both tolerances and beside them, computed. Assumes nothing.
use mathlib.Core.Path.{refl}
use lib.Count.{count_trailing_zeros}
use lib.Ieee.{add, sub, neg, lt, le, eq, of_bits, of_fields, round, size, units, odd, span, climb, sum}
use Rattle.arith.specs.Turns.{iter}
use Rattle.double.specs.Numbers.{pow2}
use Rattle.algebra.specs.Vectors.{sum_of}
use Rattle.judges.specs.Judges.{all_of, tolerance_of, wide_ok, cone_ok_within, cone_ok}
use Rattle.promises.specs.rules.Rules.{AtTolerance}

pub at-tolerance : AtTolerance
unfolding cone_ok cone_ok_within wide_ok all_of tolerance_of sum_of iter pow2 add sub sum neg lt le eq of_bits of_fields round size units odd span
    climb count_trailing_zeros
at-tolerance = record {
  of_rule_1 = record { above = refl; below = refl; next-above = refl; next-below = refl };
  of_rule_2 = record { above = refl; below = refl; next-above = refl; next-below = refl };
  between_above = refl;
  between_below = refl;
}
