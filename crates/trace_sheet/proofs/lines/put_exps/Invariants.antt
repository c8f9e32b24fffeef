-- `put_exps` meets its contract. The loop's invariant: writing the lines that are left gives what the call is to leave, and no line was
-- longer than 64 bytes. The measure is the count of fields left. Assumes nothing.
use Prim.Native.Nat.{◌+◌, ◌*◌, ◌-◌, ◌≤◌}
use Rattle.trace_sheet.specs.lines.Text.{exp_lines}
use Rattle.trace_sheet.proofs.lines.Lines.{Reached}
use Rattle.trace_sheet.proofs.lines.put_exps.Given as goal

abbrev pub invariant-loop-i : goal.invariant-loop-i
invariant-loop-i l =
    (l.i ≤ 2046) × (l.at ≤ l.place + 64 * l.i) × Reached l.initial.text l.text l.place l.at (exp_lines l.primal l.row 2046)
    (exp_lines l.primal l.row (2046 - l.i))

abbrev pub decreases-loop-i : goal.decreases-loop-i
decreases-loop-i l = 2046 - l.i
