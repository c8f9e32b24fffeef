-- `unit_initialization` asks the cone of the kind. Assumes nothing.
use borrow.Author.Tests.{eq-eqb, ne_eqb}
use Rattle.kinds.specs.Three.{unit_initialization_of}
use Rattle.kinds.proofs.three.unit_initialization.Goals as goal

pub returns-then-kind-eq2 : goal.returns-then-kind-eq2
unfolding unit_initialization_of
returns-then-kind-eq2 c = simp (eq-eqb _ _ c.if-kind-eq2.true) c.unit_initialization.ensures

pub returns : goal.returns
unfolding unit_initialization_of
returns c = simp (ne_eqb _ _ c.if-kind-eq2.false) c.unit_initialization-2.ensures
