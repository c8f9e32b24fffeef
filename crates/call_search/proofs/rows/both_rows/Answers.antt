-- The faults of the code are those of the definition. Assumes nothing.
use Rattle.call_search.proofs.rows.both_rows.Goals as goal

pub returns : goal.returns
returns c =
    simp (
      c.first_row.ensures,
      c.settings_ok.ensures,
      c.settings_finite.ensures,
      c.sides_finite.ensures,
      c.no_faults-faults.ensures,
    )
