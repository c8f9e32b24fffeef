-- `dot` meets its contract: after i turns the loop holds the sum of the first i products. Assumes nothing.
use Rattle.std.proofs.Common.{◌≡◌, length}
use Rattle.arith.specs.Turns.{iter}
use Rattle.double.specs.Numbers.{#0}
use Rattle.algebra.specs.Vectors.{dot_turn}
use Rattle.algebra.proofs.vector.dot.Given as goal

abbrev pub invariant-loop-x : goal.invariant-loop-x
invariant-loop-x l = l.t ≡ iter (dot_turn l.xs l.ys) #0 (length l.yielded)
