-- `sum_place` meets its contract: it is the definition's text. Assumes nothing.
use mathlib.Core.Path.{refl}
use Rattle.scaling.specs.primal_dual.Block.{sum_place}
use Rattle.scaling.proofs.primal_dual.sum_place.Goals as goal

pub returns : goal.returns
unfolding sum_place
returns c = refl
