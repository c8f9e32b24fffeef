-- `update_dual_grad_h` asks the cone of the kind. Assumes nothing.
use borrow.Author.Tests.{eq-eqb, ne_eqb}
use Rattle.kinds.specs.Three.{update_dual_grad_h_of}
use Rattle.kinds.proofs.three.update_dual_grad_h.Goals as goal

pub returns-then-kind-eq2 : goal.returns-then-kind-eq2
unfolding update_dual_grad_h_of
returns-then-kind-eq2 c =
    let answered = c.before.before.before in
    simp (eq-eqb _ _ answered.if-kind-eq2.true, c.plain_three.ensures, answered.update_dual_grad_h-power.ensures)

pub returns : goal.returns
unfolding update_dual_grad_h_of
returns c =
    let answered = c.before.before.before in
    simp (ne_eqb _ _ answered.if-kind-eq2.false, c.plain_three-2.ensures, answered.update_dual_grad_h-exponential.ensures)
