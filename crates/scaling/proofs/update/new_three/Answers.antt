-- `new_three` puts z and the scaling matrix beside what update_dual_grad_H makes. Assumes nothing.
use Rattle.scaling.specs.Updates.{new_three}
use Rattle.scaling.proofs.update.new_three.Goals as goal

pub returns-in_err-hs : goal.returns-in_err-hs
unfolding new_three
returns-in_err-hs c =
    rw (c.from_residual.ensures, ← c.update_dual_grad_h-dual.ensures, ← c.update_hs.ensures, c.in_err-hs.was)

pub returns : goal.returns
unfolding new_three
returns c =
    rw (← c.update_dual_grad_h-dual.ensures, ← c.update_hs.ensures, c.in_ok-hs.was)
