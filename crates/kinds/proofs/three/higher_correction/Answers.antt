-- `higher_correction` asks the cone of the kind. Assumes nothing.
use borrow.Author.Tests.{eq-eqb, ne_eqb}
use Rattle.kinds.specs.Three.{higher_correction_of}
use Rattle.kinds.proofs.three.higher_correction.Goals as goal

pub returns-then-kind-eq2 : goal.returns-then-kind-eq2
unfolding higher_correction_of
returns-then-kind-eq2 c = simp (eq-eqb _ _ c.if-kind-eq2.true) c.higher_correction.ensures

pub returns : goal.returns
unfolding higher_correction_of
returns c = simp (ne_eqb _ _ c.if-kind-eq2.false) c.higher_correction-2.ensures
