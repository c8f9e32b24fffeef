-- `put_offsets` meets its contract. The loop's invariant: writing the lines that are left gives what the call is to leave, and no line was
-- longer than 24 bytes. Assumes nothing.
use mathlib.Core.Path.{◌≡◌}
use Prim.Native.Nat.{◌+◌, ◌*◌, ◌≤◌}
use lib.ListN.{length, drop}
use lib.Seq.{sets}
use Rattle.trace_replay.specs.text.Text.{offset_lines}
use Rattle.trace_replay.proofs.text.put_offsets.Given as goal

abbrev pub invariant-loop-offset : goal.invariant-loop-offset
invariant-loop-offset l =
    let i = l.offset-index in
    (length l.bytes ≡ length l.initial.bytes) × (l.at ≤ l.place + 24 * i)
    × (l.at + length (offset_lines (drop i l.offsets)) ≡ l.place + length (offset_lines l.offsets))
    × (sets l.bytes l.at (offset_lines (drop i l.offsets)) ≡ sets l.initial.bytes l.place (offset_lines l.offsets))
