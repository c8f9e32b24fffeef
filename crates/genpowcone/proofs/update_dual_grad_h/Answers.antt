-- `update_dual_grad_h` is its definition, whether ζ is above 0 or not. Assumes nothing.
use Rattle.genpowcone.specs.DualGradient.{update_dual_grad_h_of}
use Rattle.genpowcone.proofs.update_dual_grad_h.Goals as goal

pub returns-then-zeta : goal.returns-then-zeta
unfolding update_dual_grad_h_of
returns-then-zeta c =
    simp (← c.tail.ensures, ← c.sumsq-norm2w.ensures, ← c.dual_phi-phi.ensures, c.if-zeta.true, c.rank3.ensures)

pub returns-else-zeta : goal.returns-else-zeta
unfolding update_dual_grad_h_of
returns-else-zeta c = simp (← c.tail.ensures, ← c.sumsq-norm2w.ensures, ← c.dual_phi-phi.ensures, c.if-zeta.false)
