-- `put_row` meets its contract. The loop's invariant: writing the numbers that are left
-- gives what the call is to leave. Assumes nothing.
use mathlib.Core.Path.{◌≡◌}
use Prim.Native.Nat.{◌+◌, ◌*◌, ◌≤◌}
use lib.ListN.{length, drop}
use lib.Seq.{sets}
use Rattle.octets.specs.words.Words.{row_bytes}
use Rattle.trace_layout.specs.pieces.Entries.{bits_of}
use Rattle.trace.proofs.record_writer.put_row.Given as goal

abbrev pub invariant-loop-i : goal.invariant-loop-i
invariant-loop-i l =
    (l.i ≤ length l.row) × (length l.bytes ≡ length l.initial.bytes)
    × (sets l.bytes (l.place + 8 * l.i) (row_bytes 8 (drop l.i (bits_of l.row)))
    ≡ sets l.initial.bytes l.place (row_bytes 8 (bits_of l.row)))
