-- What can be wrong with the arguments of an entry over a cone, a row of the table each; and the first row that applies. Definitions only.
use Rattle.std.specs.Prelude.{ℕ, false, ◌||◌, not, eqb}
use Rattle.cone.specs.declared.Cone.{Cone}
use Rattle.cone.specs.declared.table.Faults.{Faults}
use Rattle.cone.specs.Codes.{numel_of}
use Rattle.cone.specs.table.Table.{cone_faults, first_row}
use Rattle.judges.specs.Refusals.{bad_cone}
-- is_primal_feasible, is_dual_feasible, barrier_dual, update_dual_grad_H; rectify_equilibration, affine_ds; Δs_from_Δz_offset
pub use Rattle.call_cone.specs.feasibility.Rows.{read_rows}
unfoldable pub use Rattle.call_cone.specs.feasibility.Rows.{read_faults}
pub use Rattle.call_cone.specs.copies.Rows.{copy_rows, offset_rows}
unfoldable pub use Rattle.call_cone.specs.copies.Rows.{copy_faults, offset_faults}

-- fresh
unfoldable pub fresh_faults : Cone → Faults
fresh_faults c = cone_faults (bad_cone c) false false

abbrev pub fresh_rows : Cone → ℕ
fresh_rows c = first_row (fresh_faults c)

-- 01: "A slice that is only written is judged by its length alone". Below, a slice that is only written is given by its length

-- unit_initialization
unfoldable pub unit_faults : Cone → ℕ → ℕ → Faults
unit_faults c z s =
    let n = numel_of c in
    cone_faults (bad_cone c) (not (eqb z n) || not (eqb s n)) false

abbrev pub unit_rows : Cone → ℕ → ℕ → ℕ
unit_rows c z s = first_row (unit_faults c z s)
