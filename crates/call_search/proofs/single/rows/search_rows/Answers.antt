-- The faults of the code are those of the definition. Assumes nothing.
use Rattle.call_search.specs.single.Rows.{search_faults}
use Rattle.call_search.proofs.single.rows.search_rows.Goals as goal

pub returns : goal.returns
unfolding search_faults
returns c = simp (c.side_rows.ensures, c.cone_ok.ensures, c.numel.ensures)
