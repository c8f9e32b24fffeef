-- `no_room` meets its contract: a sum is above its bound exactly if the second is above what the first leaves. Assumes nothing.
use mathlib.Core.Path.{ap}
use mathlib.Core.Bool.{Bool, ◌||◌}
use Prim.Native.Nat.{◌+◌}
use lib.Dec.{ltb}
use native.Mathlib.Omega.{arith}
use Rattle.trace_layout.specs.Traces.{most_files}
use Rattle.trace_sheet.specs.rows.Rows.{no_room}
use Rattle.trace_sheet.proofs.rows.Summing.{above-rest}
use Rattle.trace_sheet.proofs.rows.no_room.Goals as goal

pub returns : goal.returns
unfolding no_room
returns c =
    let a = c.args in
    ap (λ (b : Bool). ltb most_files (a.files + a.more) || ltb a.flags (a.files + a.more) || b)
    (above-rest a.records a.others (omega (arith, c.well_formed)))
