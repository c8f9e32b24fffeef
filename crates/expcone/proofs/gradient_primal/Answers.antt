-- `gradient_primal` meets its contract: omega's answer picks the definition's case. Assumes nothing.
use Rattle.expcone.specs.PrimalGradient.{gradient_primal_of}
use Rattle.expcone.proofs.gradient_primal.Goals as goal

pub returns-in_err-w : goal.returns-in_err-w
unfolding gradient_primal_of
returns-in_err-w c = rw (c.from_residual.ensures, ← c.omega_at.ensures, c.in_err-w.was)

pub returns : goal.returns
unfolding gradient_primal_of
returns c = rw (c.log.ensures, ← c.omega_at.ensures, c.in_ok-w.was)
