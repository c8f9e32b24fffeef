-- `barrier_dual` meets its contract: the definition's text, with three logarithms. Assumes nothing.
use Rattle.expcone.specs.Barriers.{barrier_dual_of}
use Rattle.expcone.proofs.barrier_dual.Goals as goal

pub returns : goal.returns
unfolding barrier_dual_of
returns c = rw (c.log-2.ensures, c.log.ensures, c.log-l.ensures)
