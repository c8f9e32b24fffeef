-- `axis_of` meets its contract, by those of `cross` and `normalize3`. Assumes nothing.
use Rattle.scaling.specs.primal_dual.Block.{axis_of}
use Rattle.scaling.proofs.primal_dual.axis_of.Goals as goal

pub returns : goal.returns
unfolding axis_of
returns c = rw (c.normalize3.ensures, c.cross-axis.ensures)
