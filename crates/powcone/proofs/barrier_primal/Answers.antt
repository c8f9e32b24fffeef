-- `barrier_primal` is its definition: the calls are replaced by what they promise, the last first. Assumes nothing.
use Rattle.powcone.specs.Barriers.{barrier_primal_of}
use Rattle.powcone.proofs.barrier_primal.Goals as goal

pub returns : goal.returns
unfolding barrier_primal_of
returns c =
    let powers = c.before.before.before in
    rw (
      c.log-2.ensures,
      c.log.ensures,
      c.log-out.ensures,
      powers.powf-2.ensures,
      powers.powf.ensures,
      powers.gradient_primal-f.ensures,
    )
