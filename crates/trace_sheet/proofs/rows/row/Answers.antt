-- `row` meets its contract: every place is 0. Assumes nothing.
use mathlib.Core.Path.{refl}
use Rattle.trace_sheet.proofs.rows.Summing.{zeros}
use Rattle.trace_sheet.proofs.rows.row.Goals as goal

pub returns : goal.returns
returns c = zeros 2048 refl
