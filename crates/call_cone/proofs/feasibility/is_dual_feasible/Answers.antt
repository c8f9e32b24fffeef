-- The test of this side. Assumes nothing.
use Rattle.call_cone.specs.feasibility.Entries.{is_dual_feasible_of}
use Rattle.call_cone.proofs.feasibility.is_dual_feasible.Goals as goal

pub returns : goal.returns
unfolding is_dual_feasible_of
returns c = c.feasible.ensures
