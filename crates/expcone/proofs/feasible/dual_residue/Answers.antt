-- `dual_residue` meets its contract: the definition's text, with the kernel's logarithm. Assumes nothing.
use mathlib.Core.Path.{ap}
use Rattle.expcone.specs.feasible.Feasible.{dual_residue, dual_residue_at}
use Rattle.expcone.proofs.feasible.dual_residue.Goals as goal

pub returns : goal.returns
unfolding dual_residue dual_residue_at
returns c = ap (dual_residue_at c.args.z) c.log-l.ensures
