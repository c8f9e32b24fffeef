-- `put` meets its contract. The loop's invariant: writing the bytes that are left gives
-- what the call is to leave. The measure is their number. Assumes nothing.
use mathlib.Core.Path.{◌≡◌}
use Prim.Native.Nat.{◌≤◌, ◌+◌, ◌-◌}
use lib.ListN.{length}
use lib.Seq.{sets}
use Rattle.octets.specs.words.Words.{le}
use Rattle.octets.proofs.words.put.Given as goal

abbrev pub invariant-loop-i : goal.invariant-loop-i
invariant-loop-i l =
    (l.i ≤ l.n) × (length l.bytes ≡ length l.initial.bytes) × (sets l.bytes (l.place + l.i) (le (l.n - l.i) l.y)
    ≡ sets l.initial.bytes l.place (le l.n l.x))

abbrev pub decreases-loop-i : goal.decreases-loop-i
decreases-loop-i l = l.n - l.i
