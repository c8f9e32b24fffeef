-- `has_room` meets its contract: where no room is left for an entry the sum does not fit; else the test of the sum is moved to the other
-- side. Assumes nothing.
use Rattle.trace_layout.specs.Traces.{most_records}
use Rattle.trace.proofs.places.Room.{and-off, leb-moved}
use Rattle.trace.specs.places.Places.{has_room}
use lib.Dec.{ltb}
use mathlib.Core.Bool.{Bool, ◌&&◌}
use mathlib.Core.Path.{ap}
use Prim.Native.Nat.{◌+◌, ◌-◌, ◌<◌}
use borrow.Author.Tests.{lt-leb}
use native.Mathlib.Omega.{arith}
use Rattle.trace.proofs.places.has_room.Goals as goal

pub returns-then-room-used : goal.returns-then-room-used
unfolding has_room
returns-then-room-used c =
    let a = c.args in
    let short : a.room < a.used + a.size + 8 = omega arith in
    and-off (ltb a.count most_records) _ (lt-leb _ _ short)

pub returns-then-left-lt8 : goal.returns-then-left-lt8
unfolding has_room
returns-then-left-lt8 c =
    let a = c.args in
    let short : a.room < a.used + a.size + 8 = omega arith in
    and-off (ltb a.count most_records) _ (lt-leb _ _ short)

pub returns : goal.returns
unfolding has_room
returns c =
    let a = c.args in
    ap (λ (t : Bool). ltb a.count most_records && t)
    (leb-moved a.size (a.room - a.used - 8) (a.used + a.size + 8) a.room (λ h. omega arith) (λ h. omega arith))
