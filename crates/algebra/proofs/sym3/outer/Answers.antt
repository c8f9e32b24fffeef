-- `outer` meets its contract: it is the definition's text. Assumes nothing.
use Rattle.std.proofs.Common.{refl}
use Rattle.algebra.specs.Packed.{outer_of}
use Rattle.algebra.proofs.sym3.outer.Goals as goal

pub returns : goal.returns
unfolding outer_of
returns c = refl
