-- The faults of the code are those of the definition. Assumes nothing.
use Rattle.call_cone.specs.copies.Rows.{offset_faults}
use Rattle.call_cone.proofs.copies.offset_rows.Goals as goal

pub returns : goal.returns
unfolding offset_faults
returns c =
    simp (
      c.first_row.ensures,
      c.all_finite-2.ensures,
      c.all_finite.ensures,
      c.cone_ok.ensures,
      c.no_faults-faults.ensures,
      c.numel-n.ensures,
    )
