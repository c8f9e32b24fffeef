-- `refined` meets its contract: after i turns the loop holds the i-th refinement. Assumes nothing.
use mathlib.Core.Path.{◌≡◌}
use Rattle.arith.specs.Turns.{iter}
use Rattle.expcone.specs.wright.Omega.{refine_of}
use Rattle.expcone.proofs.wright.refined.Given as goal

abbrev pub invariant-loop : goal.invariant-loop
invariant-loop l = l.a ≡ iter (λ _ b. refine_of b) l.initial.a l.counter
