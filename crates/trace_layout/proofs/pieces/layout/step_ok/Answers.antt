-- `step_ok` meets its contract. Assumes nothing.
use mathlib.Core.Path.{refl}
use Rattle.trace_layout.specs.Records.{step_ok}
use Rattle.trace_layout.proofs.pieces.layout.step_ok.Goals as goal

pub returns : goal.returns
unfolding step_ok
returns c = refl
