-- The faults of the code are those of the definition. Assumes nothing.
use Rattle.call_search.specs.single.Rows.{step_faults}
use Rattle.call_search.proofs.single.rows.step_rows.Goals as goal

pub returns : goal.returns
unfolding step_faults
returns c = simp (c.both_rows.ensures, c.cone_ok.ensures, c.numel.ensures)
