-- `note` meets its contract: an offset more, or none. Assumes nothing.
use mathlib.Core.Path.{refl}
use native.Mathlib.Omega.{arith}
use Rattle.trace_replay.specs.call.Replay.{noted}
use Rattle.trace_replay.proofs.call.note.Goals as goal

pub returns-then-same : goal.returns-then-same
unfolding noted
returns-then-same c = rw c.if-same.true (omega arith, refl)

pub returns : goal.returns
unfolding noted
returns c = rw c.if-same.false (omega arith, refl)
