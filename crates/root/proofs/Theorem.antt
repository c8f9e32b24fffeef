-- The statement of specs/Nearest, from the two files that prove its parts. Assumes nothing.
use Rattle.root.specs.Nearest.{SquareRoot}
use Rattle.root.proofs.Nearest.{sqrt_is_nearest, only_nearest}
use Rattle.root.proofs.Specials.{sqrt_of_nan, sqrt_of_infinity, sqrt_of_minus_infinity, sqrt_of_plus_zero, sqrt_of_minus_zero}
use Rattle.root.proofs.Specials.{sqrt_of_negative}

pub square_root : SquareRoot
square_root = record {
  nearest = sqrt_is_nearest;
  only = only_nearest;
  minus-zero = sqrt_of_minus_zero;
  plus_zero = sqrt_of_plus_zero;
  infinity = sqrt_of_infinity;
  no_number = sqrt_of_nan;
  negative = sqrt_of_negative;
  minus_infinity = sqrt_of_minus_infinity;
}
