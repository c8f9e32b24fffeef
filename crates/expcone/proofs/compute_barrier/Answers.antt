-- `compute_barrier` meets its contract: the primal barrier's answer picks the definition's case. Assumes nothing.
use Rattle.expcone.specs.Barriers.{compute_barrier_of}
use Rattle.expcone.proofs.compute_barrier.Goals as goal

pub returns-in_err-primal : goal.returns-in_err-primal
unfolding compute_barrier_of
returns-in_err-primal c = rw (c.from_residual.ensures, ← c.moved3-cur_s.ensures, ← c.barrier_primal.ensures, c.in_err-primal.was)

pub returns : goal.returns
unfolding compute_barrier_of
returns c =
    rw (
      c.barrier_dual-dual.ensures,
      c.moved3-cur_z.ensures,
      ← c.moved3-cur_s.ensures,
      ← c.barrier_primal.ensures,
      c.in_ok-primal.was,
    )
