-- `primal_log_sum` meets its contract: its fold takes the turns of the definition. Assumes nothing.
use Rattle.std.proofs.Common.{rules}
use Rattle.std.proofs.lemmas.Iterator.{YieldsList-from_slice, YieldsList-from_zip}
use lib.Ieee.{Float}
use Rattle.double.specs.Operators.{◌⊕◌, ◌⊗◌}
use Rattle.double.specs.Numbers.{#0, #2}
use Rattle.kernels.specs.Door.{log_of}
use Rattle.genpowcone.specs.loops.Folds.{primal_log_sum}
use Rattle.genpowcone.proofs.loops.Turns.{zip-folded}
use Rattle.genpowcone.proofs.loops.folds.primal_log_sum.Goals as goal

pub returns : goal.returns
unfolding primal_log_sum
returns c =
    zip-folded _ _ _ (λ (t a x : Float). t ⊕ #2 ⊗ a ⊗ log_of x) #0 _ c.fold.ensures.ran
    (YieldsList-from_zip (YieldsList-from_slice c.args.alpha.now cc) (YieldsList-from_slice c.args.s.now cc))
    (λ t x u q k. search rules)
