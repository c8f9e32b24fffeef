-- What can be wrong with the arguments of an entry that copies, a row of the table each; and the first row that applies. Definitions only.
use Rattle.std.specs.Prelude.{ℕ, ◌||◌, ◌&&◌, not, List, eqb, Float}
use Rattle.cone.specs.declared.Cone.{Cone}
use Rattle.cone.specs.declared.table.Faults.{Faults}
use Rattle.cone.specs.Codes.{numel_of}
use Rattle.judges.specs.Judges.{all_finite}
use Rattle.cone.specs.table.Table.{cone_faults, first_row}
use Rattle.judges.specs.Refusals.{bad_cone, other_length, not_finite}

-- 01: "A slice that is only written is judged by its length alone". Below, a slice that is only written is given by its length

-- rectify_equilibration, affine_ds
unfoldable pub copy_faults : Cone → ℕ → List Float → Faults
copy_faults c out s =
    let n = numel_of c in
    cone_faults (bad_cone c) (not (eqb out n) || other_length n s) (not_finite s)

abbrev pub copy_rows : Cone → ℕ → List Float → ℕ
copy_rows c out s = first_row (copy_faults c out s)

-- Δs_from_Δz_offset
unfoldable pub offset_faults : Cone → ℕ → List Float → List Float → Faults
offset_faults c out ds z =
    let n = numel_of c in
    cone_faults (bad_cone c) (not (eqb out n) || other_length n ds || other_length n z) (not (all_finite ds && all_finite z))

abbrev pub offset_rows : Cone → ℕ → List Float → List Float → ℕ
offset_rows c out ds z = first_row (offset_faults c out ds z)
