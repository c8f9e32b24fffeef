-- `powf` is its definition: the power with the logarithm of x. Assumes nothing.
use Rattle.kernels.specs.Door.{powf_of}
use Rattle.kernels.proofs.powf.Goals as goal

pub returns : goal.returns
unfolding powf_of
returns c = rw (c.power.ensures, c.log.ensures)
