-- `is_apart` meets its contract: the definition's text, with two sizes. Assumes nothing.
use Rattle.scaling.specs.Scalings.{apart}
use Rattle.scaling.proofs.is_apart.Goals as goal

pub returns : goal.returns
unfolding apart
returns c = rw (c.abs-2.ensures, c.abs.ensures)
