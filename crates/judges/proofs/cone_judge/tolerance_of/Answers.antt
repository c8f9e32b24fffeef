-- `tolerance_of` chooses as its definition does. Assumes nothing.
use borrow.Author.Tests.{eq-eqb, ne_eqb}
use Rattle.judges.specs.cone_judge.Cones.{tolerance_of}
use Rattle.judges.proofs.cone_judge.tolerance_of.Goals as goal

pub returns-then-rule-eq2 : goal.returns-then-rule-eq2
unfolding tolerance_of
returns-then-rule-eq2 c = simp (eq-eqb _ _ c.if-rule-eq2.true)

pub returns-else-rule-eq2 : goal.returns-else-rule-eq2
unfolding tolerance_of
returns-else-rule-eq2 c = simp (ne_eqb _ _ c.if-rule-eq2.false)
