-- `store` meets its contract. The loop's invariant: writing what is left of the row gives what the call is to leave. The measure is its
-- length. Assumes nothing.
use mathlib.Core.Path.{◌≡◌}
use Prim.Native.Nat.{◌-◌, ◌≤◌}
use lib.ListN.{length, drop}
use lib.Seq.{sets}
use Rattle.trace_replay.proofs.call.store.Given as goal

abbrev pub invariant-loop-i : goal.invariant-loop-i
invariant-loop-i l =
    (l.i ≤ length l.row) × (l.i-end ≡ length l.row) × (length l.out ≡ length l.initial.out) × (sets l.out l.i (drop l.i l.row)
    ≡ sets l.initial.out 0 l.row)

abbrev pub decreases-loop-i : goal.decreases-loop-i
decreases-loop-i l = length l.row - l.i
