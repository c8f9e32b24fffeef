-- `shift3` meets its contract: it is the definition's text. Assumes nothing.
use Rattle.std.proofs.Common.{refl}
use Rattle.algebra.specs.Vectors.{shift_of}
use Rattle.algebra.proofs.vector.shift3.Goals as goal

pub returns : goal.returns
unfolding shift_of
returns c = refl
