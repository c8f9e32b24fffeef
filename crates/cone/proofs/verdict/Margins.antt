-- The factors are the powers of two that they are named after: computed. Assumes nothing.
use mathlib.Core.Path.{refl}
use lib.Ieee.{of_bits}
use Rattle.double.specs.Numbers.{pow2}
use Rattle.cone.specs.verdict.Margins.{FactorsRight}

pub factors_right : FactorsRight
unfolding of_bits pow2
factors_right = record { exponential_right = refl; power_right = refl }
