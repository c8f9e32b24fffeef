-- `blank` meets its contract: 64 zeros. Assumes nothing.
use mathlib.Core.Path.{refl}
use Rattle.trace_replay.specs.rerun.Rerun.{blank_point}
use Rattle.trace_replay.proofs.rerun.blank.Goals as goal

pub returns : goal.returns
unfolding blank_point
returns c = refl
