-- `norm_fro` meets its contract: the root of the definition's sum. Assumes nothing.
use Rattle.algebra.specs.Packed.{norm_fro_of}
use Rattle.algebra.proofs.sym3.norm_fro.Goals as goal

pub returns : goal.returns
unfolding norm_fro_of
returns c = c.sqrt.ensures
