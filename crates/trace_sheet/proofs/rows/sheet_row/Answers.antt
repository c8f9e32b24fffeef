-- `sheet_row` meets its contract: the lengths come first. Assumes nothing.
use Rattle.trace_sheet.specs.rows.Rows.{sheet_row}
use Rattle.trace_sheet.proofs.rows.sheet_row.Goals as goal

pub returns-then-length : goal.returns-then-length
unfolding sheet_row
returns-then-length c = rw c.if-length.true

pub returns : goal.returns
unfolding sheet_row
returns c = rw c.if-length.false c.trace_row.ensures
