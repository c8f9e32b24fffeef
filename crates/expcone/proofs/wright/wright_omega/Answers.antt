-- `wright_omega` meets its contract: the test picks the definition's branch. Assumes nothing.
use Rattle.expcone.specs.wright.Omega.{omega_of}
use Rattle.expcone.proofs.wright.wright_omega.Goals as goal

pub returns-then-z : goal.returns-then-z
unfolding omega_of
returns-then-z c = simp c.if-z.true

pub returns : goal.returns
unfolding omega_of
returns c = simp (c.if-z.false, c.refined.ensures, c.start.ensures)
