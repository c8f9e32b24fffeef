-- `compute_barrier` is its definition: the calls are replaced by what they promise, the last first. Assumes nothing.
use Rattle.powcone.specs.Barriers.{compute_barrier_of}
use Rattle.powcone.proofs.compute_barrier.Goals as goal

pub returns : goal.returns
unfolding compute_barrier_of
returns c =
    rw (
      c.barrier_primal.ensures,
      c.barrier_dual.ensures,
      c.moved3-cur_s.ensures,
      c.moved3-cur_z.ensures,
    )
