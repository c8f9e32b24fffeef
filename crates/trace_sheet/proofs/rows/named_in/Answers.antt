-- `named_in` meets its contract: the tests are the definition's. Assumes nothing.
use mathlib.Core.Path.{refl}
use Rattle.trace_sheet.specs.rows.Rows.{named_in}
use Rattle.trace_sheet.proofs.rows.named_in.Goals as goal

pub returns : goal.returns
unfolding named_in
returns c = refl
