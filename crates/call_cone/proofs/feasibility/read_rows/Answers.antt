-- The faults of the code are those of the definition. Assumes nothing.
use Rattle.call_cone.specs.feasibility.Rows.{read_faults}
use Rattle.call_cone.proofs.feasibility.read_rows.Goals as goal

pub returns : goal.returns
unfolding read_faults
returns c =
    simp (
      c.first_row.ensures,
      c.all_finite.ensures,
      c.cone_ok.ensures,
      c.no_faults-faults.ensures,
      c.numel-n.ensures,
    )
