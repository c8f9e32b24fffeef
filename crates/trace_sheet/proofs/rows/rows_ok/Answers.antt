-- `rows_ok` meets its contract: the tests are the definition's. Assumes nothing.
use mathlib.Core.Path.{refl}
use Rattle.trace_sheet.specs.rows.Rows.{rows_ok}
use Rattle.trace_sheet.proofs.rows.rows_ok.Goals as goal

pub returns : goal.returns
unfolding rows_ok
returns c = refl
