-- `barrier_primal` meets its contract: omega's answer picks the definition's case. Assumes nothing.
use Rattle.expcone.specs.Barriers.{barrier_primal_of}
use Rattle.expcone.proofs.barrier_primal.Goals as goal

pub returns-in_err-w : goal.returns-in_err-w
unfolding barrier_primal_of
returns-in_err-w c = rw (c.from_residual.ensures, ← c.omega_at.ensures, c.in_err-w.was)

pub returns : goal.returns
unfolding barrier_primal_of
returns c = rw (c.log-3.ensures, c.log-2.ensures, c.log.ensures, ← c.omega_at.ensures, c.in_ok-w.was)
