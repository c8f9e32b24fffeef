-- `copy` meets its contract. The loop's invariant: writing the bytes that are left gives what the call is to leave. The measure is their
-- count. Assumes nothing.
use mathlib.Core.Path.{◌≡◌}
use Prim.Native.Nat.{◌+◌, ◌-◌, ◌≤◌}
use lib.ListN.{length, drop}
use lib.Seq.{sets}
use Rattle.octets.proofs.words.copy.Given as goal

abbrev pub invariant-loop-i : goal.invariant-loop-i
invariant-loop-i l =
    (l.i ≤ length l.bytes) × (l.i-end ≡ length l.bytes) × (length l.out ≡ length l.initial.out)
    × (sets l.out (l.place + l.i) (drop l.i l.bytes) ≡ sets l.initial.out l.place l.bytes)

abbrev pub decreases-loop-i : goal.decreases-loop-i
decreases-loop-i l = length l.bytes - l.i
