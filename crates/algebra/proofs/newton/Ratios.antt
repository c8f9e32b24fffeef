-- The ratio of a NaN is a NaN. Assumes nothing.
use Rattle.std.proofs.Common.{◌≡◌, refl}
use lib.Ieee.{nan, of_bits, add, div}
use Rattle.algebra.specs.newton.Ratios.{ratio_of}

pub ratio_of_nan : ratio_of nan ≡ nan
unfolding ratio_of of_bits add div
ratio_of_nan = refl
