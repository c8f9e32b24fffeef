-- A refused gradient holds zeros. Assumes nothing.
use Rattle.call_cone.specs.formulas.Entries.{refuse_grad}
use Rattle.call_cone.proofs.formulas.refused_gradient.Goals as goal

pub returns : goal.returns
unfolding refuse_grad
returns c = simp (c.no_three-three.ensures, c.no_wide-wide.ensures, c.number.ensures)
