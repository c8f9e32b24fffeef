-- As many files as turns were read and added.
use Rattle.std.proofs.Common.{[]}
use Rattle.trace_sheet.specs.counts.Sheet.{sheet_of}
use Rattle.trace_sheet.specs.rows.Rows.{totals_of}
use Rattle.sheet.specs.Counting.{Added}
use Rattle.sheet.proofs.count_files.Given as goal

abbrev pub invariant-loop-i : goal.invariant-loop-i
invariant-loop-i l =
    Added l.i (record { totals = totals_of (sheet_of []); dual = l.fn.dual; primal = l.fn.primal; skipped = l.fn.skipped })
    (record { totals = l.totals; dual = l.dual; primal = l.primal; skipped = l.skipped })
