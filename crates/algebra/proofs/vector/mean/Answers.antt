-- `mean` meets its contract, by that of `sum`; the count is rounded once. Assumes nothing.
use Rattle.algebra.specs.Vectors.{mean_of}
use Rattle.algebra.proofs.vector.mean.Goals as goal

pub returns : goal.returns
unfolding mean_of
returns c = rw (c.nearest_u64_to_f64.ensures, c.sum.ensures)
