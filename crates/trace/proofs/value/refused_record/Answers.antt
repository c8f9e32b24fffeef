-- `refused_record` meets its contract: every number is +0 or 0. Assumes nothing.
use Rattle.trace.specs.value.Recorded.{refused_record}
use Rattle.trace.proofs.value.refused_record.Goals as goal

pub returns : goal.returns
unfolding refused_record
returns c = rw (c.empty_cone-cone.ensures, c.number.ensures)
