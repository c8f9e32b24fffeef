-- `shape_ok` meets its contract. Assumes nothing.
use Rattle.trace_layout.specs.Records.{shape_ok}
use Rattle.trace_layout.proofs.pieces.layout.shape_ok.Goals as goal

pub returns : goal.returns
unfolding shape_ok
returns c = rw c.dims_ok.ensures
