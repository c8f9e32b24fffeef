-- `norm` meets its contract, by those of `sumsq` and the root. Assumes nothing.
use Rattle.algebra.specs.Vectors.{norm_of}
use Rattle.algebra.proofs.vector.norm.Goals as goal

pub returns : goal.returns
unfolding norm_of
returns c = rw (c.sqrt.ensures, c.sumsq.ensures)
