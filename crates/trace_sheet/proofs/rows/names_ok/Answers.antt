-- `names_ok` meets its contract: each side's test is the definition's. Assumes nothing.
use Rattle.trace_sheet.specs.rows.Rows.{names_ok}
use Rattle.trace_sheet.proofs.rows.names_ok.Goals as goal

pub returns : goal.returns
unfolding names_ok
returns c = rw (c.named_in-dual_named.ensures, c.named_in-primal_named.ensures)
