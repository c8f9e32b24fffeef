-- `step_at` meets its contract: the test is the definition's. Assumes nothing.
use Rattle.trace_sheet.proofs.one_file.step_at.Goals as goal

pub returns-then-primal : goal.returns-then-primal
returns-then-primal c = rw c.if-primal.true c.u64_at.ensures

pub returns : goal.returns
returns c = rw c.if-primal.false c.u64_at-2.ensures
