-- `barrier_dual` is its definition: the calls are replaced by what they promise, the last first. Assumes nothing.
use Rattle.genpowcone.specs.Barriers.{barrier_dual_of}
use Rattle.genpowcone.proofs.barrier_dual.Goals as goal

pub returns : goal.returns
unfolding barrier_dual_of
returns c = rw (c.less_logs.ensures, c.log.ensures, c.dual_residue-r.ensures)
