-- `primal_margin` computes as its definition does. Assumes nothing.
use Rattle.expcone.specs.feasible.Feasible.{primal_margin_at}
use Rattle.expcone.proofs.feasible.primal_margin.Goals as goal

pub returns : goal.returns
unfolding primal_margin_at
returns c = simp (c.abs-2.ensures, c.abs.ensures)
