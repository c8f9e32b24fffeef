-- `update_dual_grad_h` is its definition: only φ comes from a call. Assumes nothing.
use Rattle.powcone.specs.DualGradient.{update_dual_grad_h_of}
use Rattle.powcone.proofs.update_dual_grad_h.Goals as goal

pub returns : goal.returns
unfolding update_dual_grad_h_of
returns c = rw c.dual_phi-phi.ensures
