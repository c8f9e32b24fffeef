-- `dual_residue` is its definition: the calls are replaced by what they promise, the last first. Assumes nothing.
use Rattle.powcone.specs.Feasible.{residue_at, dual_residue}
use Rattle.powcone.proofs.dual_residue.Goals as goal

pub returns : goal.returns
unfolding dual_residue residue_at
returns c = rw (c.of.ensures, c.exp-power.ensures, c.log-2.ensures, c.log.ensures)
