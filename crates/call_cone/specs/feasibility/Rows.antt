-- What can be wrong with a cone and a point that are read, a row of the table each; and the first row that applies. Definitions only.
use Rattle.std.specs.Prelude.{ℕ, List, Float}
use Rattle.cone.specs.declared.Cone.{Cone}
use Rattle.cone.specs.declared.table.Faults.{Faults}
use Rattle.cone.specs.Codes.{numel_of}
use Rattle.cone.specs.table.Table.{cone_faults, first_row}
use Rattle.judges.specs.Refusals.{bad_cone, other_length, not_finite}

-- is_primal_feasible, is_dual_feasible, barrier_dual, update_dual_grad_H
unfoldable pub read_faults : Cone → List Float → Faults
read_faults c s = cone_faults (bad_cone c) (other_length (numel_of c) s) (not_finite s)

abbrev pub read_rows : Cone → List Float → ℕ
read_rows c s = first_row (read_faults c s)
