-- `primal_residue` meets its contract: the definition's text, with the kernel's logarithm. Assumes nothing.
use mathlib.Core.Path.{ap}
use Rattle.expcone.specs.feasible.Feasible.{primal_residue, primal_residue_at}
use Rattle.expcone.proofs.feasible.primal_residue.Goals as goal

pub returns : goal.returns
unfolding primal_residue primal_residue_at
returns c = ap (primal_residue_at c.args.s) c.log-l.ensures
