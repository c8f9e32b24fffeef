-- `mul` meets its contract: it is the definition's text. Assumes nothing.
use Rattle.std.proofs.Common.{refl}
use Rattle.algebra.specs.Packed.{mul_of}
use Rattle.algebra.proofs.sym3.mul.Goals as goal

pub returns : goal.returns
unfolding mul_of
returns c = refl
