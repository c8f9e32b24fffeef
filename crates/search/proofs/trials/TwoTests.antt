-- The searches of specs/trials/TwoTests, as computed. So the common step of a plan is not the smallest of its cones' steps: a cone that
-- passes at a trial need not pass at a smaller one, when it comes from outside. Assumes nothing.
use mathlib.Core.Path.{refl}
use lib.Count.{count_trailing_zeros, count_leading_zeros}
use lib.Ieee.{mul, lt, of_bits, to_bits, of_fields, round, size, units, odd, span, climb}
use Rattle.search.specs.trials.Search.{scan, search_of}
use Rattle.search.specs.trials.TwoTests.{NotTheSmallest}

pub not_the_smallest : NotTheSmallest
unfolding search_of scan lt mul of_bits of_fields to_bits round size units odd span climb count_trailing_zeros count_leading_zeros
not_the_smallest = record { early_alone = refl; late_alone = refl; together = refl; common = refl }
