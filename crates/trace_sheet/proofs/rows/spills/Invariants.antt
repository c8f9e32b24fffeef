-- `spills` meets its contract. The loop's invariant: the answer is that of the places from here on. Assumes nothing.
use mathlib.Core.Path.{◌≡◌}
use Rattle.trace_sheet.specs.rows.Rows.{spills}
use Rattle.trace_sheet.proofs.rows.Summing.{left}
use Rattle.trace_sheet.proofs.rows.spills.Given as goal

abbrev pub invariant-loop-i : goal.invariant-loop-i
invariant-loop-i l = left l.row l.more l.i ≡ spills l.row l.more
