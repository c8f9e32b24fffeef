-- `start` meets its contract: the test picks the definition's branch. Assumes nothing.
use Rattle.expcone.specs.wright.Omega.{start_of}
use Rattle.expcone.proofs.wright.start.Goals as goal

pub returns-then-z : goal.returns-then-z
unfolding start_of
returns-then-z c = simp (c.if-z.true, c.taylor_start.ensures)

pub returns-else-z : goal.returns-else-z
unfolding start_of
returns-else-z c = simp (c.if-z.false, c.log_start.ensures, c.log.ensures)
