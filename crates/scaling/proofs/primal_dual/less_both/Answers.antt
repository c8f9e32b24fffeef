-- `less_both` meets its contract: it is the definition's text. Assumes nothing.
use mathlib.Core.Path.{refl}
use Rattle.scaling.specs.primal_dual.Block.{less_both}
use Rattle.scaling.proofs.primal_dual.less_both.Goals as goal

pub returns : goal.returns
unfolding less_both
returns c = refl
