-- `less` meets its contract: it is the definition's text. Assumes nothing.
use mathlib.Core.Path.{refl}
use Rattle.scaling.specs.primal_dual.Block.{less_at}
use Rattle.scaling.proofs.primal_dual.less.Goals as goal

pub returns : goal.returns
unfolding less_at
returns c = refl
