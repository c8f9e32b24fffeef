-- `update_dual_grad_h` meets its contract: the definition's text, with the kernel's logarithm. Assumes nothing.
use Rattle.expcone.specs.DualGradient.{update_dual_grad_h_of}
use Rattle.expcone.proofs.update_dual_grad_h.Goals as goal

pub returns : goal.returns
unfolding update_dual_grad_h_of
returns c = rw c.log-l.ensures
