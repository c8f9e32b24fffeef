-- `move_up` meets its contract. The loop's invariant: the bytes from i on stand at their
-- new place, and nothing else has changed. Assumes nothing.
use mathlib.Core.Path.{◌≡◌}
use Prim.Native.Nat.{◌+◌, ◌≤◌}
use lib.ListN.{length, take, drop}
use lib.Seq.{sets}
use Rattle.trace.proofs.writer.write.move_up.Given as goal

abbrev pub invariant-loop-i : goal.invariant-loop-i
invariant-loop-i l =
    (l.i ≤ l.n) × (length l.bytes ≡ length l.initial.bytes) × (l.bytes ≡ sets l.initial.bytes (l.from + l.by + l.i) (drop l.i (take l.n
    (drop l.from l.initial.bytes))))
