-- `omega_at` is its definition: omega at the argument that the point gives. Assumes nothing.
use Rattle.expcone.specs.wright.Omega.{omega_at}
use Rattle.expcone.proofs.wright.omega_at.Goals as goal

pub returns : goal.returns
unfolding omega_at
returns c = rw (c.wright_omega.ensures, c.log.ensures)
