-- The faults of the code are those of the definition. Assumes nothing.
use Rattle.call_cone.specs.formulas.Rows.{fresh_faults}
use Rattle.call_cone.proofs.formulas.rows.fresh_rows.Goals as goal

pub returns : goal.returns
unfolding fresh_faults
returns c = simp (c.first_row.ensures, c.cone_ok.ensures, c.no_faults-faults.ensures)
