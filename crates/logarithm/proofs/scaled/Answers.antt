-- `scaled` meets its contract: the nearest double to n, times the literal 2^-53. Assumes nothing.
use Rattle.std.proofs.Common.{ap}
use lib.Ieee.{Float, binary64, mul, of_bits}
use Rattle.logarithm.specs.Steps.{scaled_of}
use Rattle.logarithm.proofs.scaled.Goals as goal

pub returns : goal.returns
unfolding scaled_of
returns c = ap (λ (x : Float). mul binary64 x (of_bits binary64 0x3ca0_0000_0000_0000)) c.nearest_u64_to_f64.ensures
