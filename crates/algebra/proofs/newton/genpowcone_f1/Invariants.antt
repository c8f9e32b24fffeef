-- `genpowcone_f1` meets its contract: after i turns the loop holds the first i terms. Assumes nothing.
use Rattle.std.proofs.Common.{◌≡◌, length}
use Rattle.arith.specs.Turns.{iter}
use Rattle.algebra.specs.newton.Equations.{gen_f1_turn}
use Rattle.algebra.proofs.newton.genpowcone_f1.Given as goal

abbrev pub invariant-loop-a : goal.invariant-loop-a
invariant-loop-a l = l.f ≡ iter (gen_f1_turn l.normr l.g.alpha.now l.x) l.initial.f (length l.yielded)
