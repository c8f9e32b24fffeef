-- `less_logs` meets its contract: its fold takes the turns of the definition. Assumes nothing.
use Rattle.std.proofs.Common.{rules}
use Rattle.std.proofs.lemmas.Iterator.{YieldsList-from_slice, YieldsList-from_zip}
use lib.Ieee.{Float}
use Rattle.double.specs.Operators.{◌⊖◌, ◌⊗◌}
use Rattle.double.specs.Numbers.{#1}
use Rattle.kernels.specs.Door.{log_of}
use Rattle.genpowcone.specs.loops.Folds.{less_logs}
use Rattle.genpowcone.proofs.loops.Turns.{zip-folded}
use Rattle.genpowcone.proofs.loops.folds.less_logs.Goals as goal

pub returns : goal.returns
unfolding less_logs
returns c =
    zip-folded _ _ _ (λ (t a x : Float). t ⊖ log_of x ⊗ (#1 ⊖ a)) c.args.start _ c.fold.ensures.ran
    (YieldsList-from_zip (YieldsList-from_slice c.args.alpha.now cc) (YieldsList-from_slice c.args.z.now cc))
    (λ t x u q k. search rules)
