-- `barrier_primal` asks the cone of the kind. Assumes nothing.
use borrow.Author.Tests.{eq-eqb, ne_eqb}
use Rattle.kinds.specs.Three.{barrier_primal_of}
use Rattle.kinds.proofs.three.barrier_primal.Goals as goal

pub returns-then-kind-eq2 : goal.returns-then-kind-eq2
unfolding barrier_primal_of
returns-then-kind-eq2 c = simp (eq-eqb _ _ c.if-kind-eq2.true, c.barrier_primal.ensures)

pub returns : goal.returns
unfolding barrier_primal_of
returns c = simp (ne_eqb _ _ c.if-kind-eq2.false) c.barrier_primal-2.ensures
