-- `gradient_primal` asks the cone of the kind. Assumes nothing.
use borrow.Author.Tests.{eq-eqb, ne_eqb}
use Rattle.kinds.specs.Three.{gradient_primal_of}
use Rattle.kinds.proofs.three.gradient_primal.Goals as goal

pub returns-then-kind-eq2 : goal.returns-then-kind-eq2
unfolding gradient_primal_of
returns-then-kind-eq2 c = simp (eq-eqb _ _ c.if-kind-eq2.true, c.gradient_primal-power.ensures)

pub returns-in_err-g : goal.returns-in_err-g
unfolding gradient_primal_of
returns-in_err-g c =
    rw (ne_eqb _ _ c.if-kind-eq2.false, ← c.gradient_primal.ensures, c.in_err-g.was) c.from_residual.ensures

pub returns : goal.returns
unfolding gradient_primal_of
returns c = rw (ne_eqb _ _ c.if-kind-eq2.false, ← c.gradient_primal.ensures, c.in_ok-g.was)
