-- `dual_residue` is its definition: the calls are replaced by what they promise, the last first. Assumes nothing.
use Rattle.genpowcone.specs.Feasible.{residue_at, dual_residue}
use Rattle.genpowcone.proofs.dual_residue.Goals as goal

pub returns : goal.returns
unfolding dual_residue residue_at
returns c =
    rw (
      c.of.ensures,
      c.sumsq-square.ensures,
      c.tail.ensures,
      c.exp-power.ensures,
      c.dual_log_sum.ensures,
    )
