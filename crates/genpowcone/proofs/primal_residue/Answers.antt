-- `primal_residue` is its definition: the calls are replaced by what they promise, the last first. Assumes nothing.
use Rattle.genpowcone.specs.Feasible.{residue_at, primal_residue}
use Rattle.genpowcone.proofs.primal_residue.Goals as goal

pub returns : goal.returns
unfolding primal_residue residue_at
returns c =
    rw (
      c.of.ensures,
      c.sumsq-square.ensures,
      c.tail.ensures,
      c.exp-power.ensures,
      c.primal_log_sum.ensures,
    )
