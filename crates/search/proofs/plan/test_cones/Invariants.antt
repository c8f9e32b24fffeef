-- `test_cones` meets its contract. The loop's invariant is `PassedTo`: the cones behind passed, on the numbers behind.
-- Assumes nothing.
use Rattle.search.proofs.plan.Plans.{PassedTo}
use Rattle.search.proofs.plan.test_cones.Given as goal

abbrev pub invariant-loop-i : goal.invariant-loop-i
invariant-loop-i l = PassedTo l.cones l.primal l.point l.at l.i
