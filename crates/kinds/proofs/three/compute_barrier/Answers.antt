-- `compute_barrier` asks the cone of the kind. Assumes nothing.
use borrow.Author.Tests.{eq-eqb, ne_eqb}
use Rattle.kinds.specs.Three.{compute_barrier_of}
use Rattle.kinds.proofs.three.compute_barrier.Goals as goal

pub returns-then-kind-eq2 : goal.returns-then-kind-eq2
unfolding compute_barrier_of
returns-then-kind-eq2 c = simp (eq-eqb _ _ c.if-kind-eq2.true, c.compute_barrier.ensures)

pub returns : goal.returns
unfolding compute_barrier_of
returns c = simp (ne_eqb _ _ c.if-kind-eq2.false) c.compute_barrier-2.ensures
