-- `note_all` meets its contract. The loop's invariant: noting what is left gives what the call is to leave, and the walk from here on
-- succeeds. The measure is the count of records left. Assumes nothing.
use mathlib.Core.Path.{◌≡◌}
use Prim.Native.Nat.{◌+◌, ◌-◌, ◌≤◌}
use lib.ListN.{length}
use lib.Seq.{sets}
use Rattle.trace_replay.specs.call.Replay.{differing_in}
use Rattle.trace_replay.proofs.call.Noting.{Walks, left}
use Rattle.trace_replay.proofs.call.note_all.Given as goal

abbrev pub invariant-loop-i : goal.invariant-loop-i
invariant-loop-i l =
    (l.i ≤ l.opened.count) × (l.i-end ≡ l.opened.count) × (l.n ≤ l.i) × (length l.offsets ≡ length l.initial.offsets)
    × Walks l.trace l.opened l.at l.i
    × (l.n + length (left l.trace l.opened l.at l.i) ≡ length (differing_in l.trace l.opened))
    × (sets l.offsets l.n (left l.trace l.opened l.at l.i) ≡ sets l.initial.offsets 0 (differing_in l.trace l.opened))

abbrev pub decreases-loop-i : goal.decreases-loop-i
decreases-loop-i l = l.opened.count - l.i
