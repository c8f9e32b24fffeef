-- `refined` meets its contract: after i turns the loop holds the i-th refinement. Assumes nothing.
use mathlib.Core.Path.{◌∙◌, ap}
use lib.Ieee.{Float}
use Rattle.arith.specs.Turns.{iter}
use Rattle.arith.proofs.Turns.{iter-none, iter-next, iter_end}
use Rattle.double.specs.Operators.{◌⊖◌}
use Rattle.expcone.specs.declared.wright.Approx.{Approx}
use Rattle.expcone.specs.wright.Omega.{refine_of, refined_of}
use native.Mathlib.Omega.{arith}
use Rattle.expcone.proofs.wright.refined.Goals as goal

pub loop-init : goal.loop-init
loop-init c = iter-none _ _

pub loop-preserved : goal.loop-preserved
loop-preserved c = rw c.refine-a.ensures (iter-next _ _ _ c.loop.invariant)

pub returns : goal.returns
unfolding refined_of
returns c =
    let a = c.args in
    let from : Float → Approx = λ t. iter (λ _ b. refine_of b) (record { w = a.w; r = a.z ⊖ a.w ⊖ t }) 2 in
    ap (λ (b : Approx). b.w) (iter_end _ _ _ _ c.loop.invariant (omega arith) (omega arith))
    ∙ ap (λ (t : Float). (from t).w) c.log.ensures
