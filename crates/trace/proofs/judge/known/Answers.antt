-- `known` meets its contract. Assumes nothing.
use mathlib.Core.Path.{refl}
use Rattle.trace_layout.specs.Traces.{known}
use Rattle.trace.proofs.judge.known.Goals as goal

pub returns : goal.returns
unfolding known
returns c = refl
