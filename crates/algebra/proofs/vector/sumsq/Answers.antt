-- `sumsq` meets its contract: after i turns the loop holds the first i terms' sum. Assumes nothing.
use Rattle.std.proofs.Common.{arith}
use Rattle.arith.proofs.Turns.{iter-none, iter-next, iter_end}
use Rattle.algebra.specs.Vectors.{sumsq_of}
use Rattle.algebra.proofs.vector.sumsq.Goals as goal

pub loop-x-init : goal.loop-x-init
loop-x-init c = iter-none _ _

pub loop-x-preserved : goal.loop-x-preserved
loop-x-preserved c = iter-next _ _ _ c.loop-x.invariant

pub returns : goal.returns
unfolding sumsq_of
returns c = iter_end _ _ _ _ c.loop-x.invariant (omega arith) (omega arith)
