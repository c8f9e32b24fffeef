-- `barrier_dual` is its definition: the calls are replaced by what they promise, the last first. Assumes nothing.
use Rattle.powcone.specs.Barriers.{barrier_dual_of}
use Rattle.powcone.proofs.barrier_dual.Goals as goal

pub returns : goal.returns
unfolding barrier_dual_of
returns c = rw (c.log-3.ensures, c.log-2.ensures, c.log.ensures, c.dual_phi.ensures)
