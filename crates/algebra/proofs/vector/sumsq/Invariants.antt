-- `sumsq` meets its contract: after i turns the loop holds the first i terms' sum. Assumes nothing.
use Rattle.std.proofs.Common.{◌≡◌}
use Rattle.arith.specs.Turns.{iter}
use Rattle.double.specs.Numbers.{#0}
use Rattle.algebra.specs.Vectors.{sumsq_turn}
use Rattle.algebra.proofs.vector.sumsq.Given as goal

abbrev pub invariant-loop-x : goal.invariant-loop-x
invariant-loop-x l = l.t ≡ iter (sumsq_turn l.xs) #0 l.x-index
