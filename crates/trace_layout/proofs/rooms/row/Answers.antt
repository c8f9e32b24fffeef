-- `row` meets its contract: every place is 0. Assumes nothing.
use mathlib.Core.Path.{refl}
use Prim.Native.Nat.{ℕ}
use lib.ListN.{length-replicate}
use Rattle.trace_layout.specs.Traces.{most_records}
use Rattle.trace_layout.proofs.rooms.row.Goals as goal

pub returns : goal.returns
returns c = (length-replicate {A = ℕ} most_records 0, refl)
