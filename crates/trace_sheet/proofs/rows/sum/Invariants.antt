-- `sum` meets its contract. The loop's invariant: the first i places hold the sum. Assumes nothing.
use Rattle.trace_sheet.proofs.rows.Summing.{Reached}
use Rattle.trace_sheet.proofs.rows.sum.Given as goal

abbrev pub invariant-loop-i : goal.invariant-loop-i
invariant-loop-i l = Reached l.initial.row l.more l.row l.i
