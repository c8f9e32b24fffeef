-- `file_room` meets its contract: every place is 0. Assumes nothing.
use mathlib.Core.Path.{refl}
use Prim.Native.Nat.{ℕ}
use lib.ListN.{length-replicate}
use Rattle.trace_layout.specs.Traces.{file_room}
use Rattle.trace_layout.proofs.rooms.file_room.Goals as goal

pub returns : goal.returns
returns c = (length-replicate {A = ℕ} file_room 0, refl)
