-- The sheet of no files has no records, no flags and no largest.
use Rattle.std.proofs.Common.{refl}
use Rattle.trace_sheet.specs.counts.Counts.{largest_of}
use Rattle.trace_sheet.specs.counts.Sheet.{entries_from, sheet_of}
use Rattle.trace_sheet.specs.rows.Rows.{totals_of}
use Rattle.sheet.proofs.nothing.Goals as goal

pub returns : goal.returns
unfolding totals_of sheet_of entries_from largest_of
returns c = refl
