-- `same_answers` meets its contract: each pattern by its call. Assumes nothing.
use Rattle.trace_replay.specs.rerun.Rerun.{same_answers}
use Rattle.trace_replay.proofs.rerun.same_answers.Goals as goal

pub returns : goal.returns
unfolding same_answers
returns c =
    -- the dual step's two patterns are taken before the primal step's
    rw (
      c.to_bits-4.ensures,
      c.to_bits-3.ensures,
      c.to_bits-2.ensures,
      c.to_bits.ensures,
    )
