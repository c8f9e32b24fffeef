-- `dual_margin` computes as its definition does. Assumes nothing.
use Rattle.expcone.specs.feasible.Feasible.{dual_margin_at}
use Rattle.expcone.proofs.feasible.dual_margin.Goals as goal

pub returns : goal.returns
unfolding dual_margin_at
returns c = simp (c.abs-3.ensures, c.abs-2.ensures, c.abs.ensures)
