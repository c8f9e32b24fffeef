-- `genpow_answer` asks the test of its side. Assumes nothing.
use Rattle.arith.proofs.Branches.{taken, left}
use Rattle.kinds.specs.Answers.{genpow_answer}
use Rattle.kinds.proofs.genpow_answer.Goals as goal

pub returns-then-primal : goal.returns-then-primal
unfolding genpow_answer
returns-then-primal c = taken _ c.if-primal.true c.is_primal_feasible.ensures

pub returns-else-primal : goal.returns-else-primal
unfolding genpow_answer
returns-else-primal c = left _ c.if-primal.false c.is_dual_feasible.ensures
