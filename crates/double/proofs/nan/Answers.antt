-- `nan` answers NaN: the division computes. Assumes nothing.
use mathlib.Core.Path.{refl}
use lib.Ieee.{div, of_bits}
use Rattle.double.proofs.nan.Goals as goal

pub returns : goal.returns
unfolding div of_bits
returns c = refl
