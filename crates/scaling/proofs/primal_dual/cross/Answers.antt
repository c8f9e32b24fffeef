-- `cross` meets its contract: it is the definition's text. Assumes nothing.
use mathlib.Core.Path.{refl}
use Rattle.scaling.specs.primal_dual.Block.{cross_of}
use Rattle.scaling.proofs.primal_dual.cross.Goals as goal

pub returns : goal.returns
unfolding cross_of
returns c = refl
