-- `short` meets its contract: the test of the sum is moved to the other side. Assumes nothing.
use mathlib.Core.Path.{sym}
use Prim.Native.Nat.{◌+◌, ◌-◌, ◌<◌}
use native.Mathlib.Omega.{arith}
use borrow.Author.Tests.{lt-ltb}
use Rattle.trace.proofs.places.Room.{ltb-moved}
use Rattle.trace.proofs.recording.short.Goals as goal

pub returns-then-room-at : goal.returns-then-room-at
returns-then-room-at c =
    let a = c.args in
    let above : a.room < a.at + a.n = omega arith in
    sym (lt-ltb a.room (a.at + a.n) above)

pub returns : goal.returns
returns c =
    let a = c.args in
    ltb-moved (a.room - a.at) a.n a.room (a.at + a.n) (λ h. omega arith) (λ h. omega arith)
