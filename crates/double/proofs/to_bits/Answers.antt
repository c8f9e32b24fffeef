-- `to_bits` meets its contract: NaN's pattern computes. Assumes nothing.
use mathlib.Core.Path.{sym, ap}
use lib.Ieee.{binary64, to_bits}
use Rattle.double.proofs.NotNan.{is_nan-only}
use Rattle.double.proofs.to_bits.Goals as goal

pub returns-then-is_nan : goal.returns-then-is_nan
unfolding to_bits
returns-then-is_nan c = sym (ap (to_bits binary64) (is_nan-only c.args.x (sym c.if-is_nan.ensures.value)))
