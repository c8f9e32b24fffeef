-- `put_flags` meets its contract. The loop's invariant: writing the lines that are left gives what the call is to leave, and no line was
-- longer than 64 bytes. Assumes nothing.
use Prim.Native.Nat.{◌*◌, ◌≤◌}
use lib.ListN.{length}
use Rattle.trace_sheet.specs.lines.Text.{skipped_lines}
use Rattle.trace_sheet.proofs.lines.Lines.{Reached, left}
use Rattle.trace_sheet.proofs.lines.put_flags.Given as goal

abbrev pub invariant-loop-i : goal.invariant-loop-i
invariant-loop-i l =
    (l.i ≤ length l.flags) × (l.at ≤ 64 * l.i)
    × Reached l.initial.text l.text 0 l.at (skipped_lines 1 l.flags) (left l.flags l.i)
