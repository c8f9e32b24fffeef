-- What each entry that copies answers and leaves, for all arguments. Definitions only.
use Rattle.std.specs.Prelude.{ℕ, List, Float, length}
use Rattle.cone.specs.declared.Cone.{Cone}
use Rattle.cone.specs.table.Table.{settle}
use Rattle.judges.specs.Refusals.{Lent, refuse}
use Rattle.call_cone.specs.copies.Rows.{copy_rows, offset_rows}

-- 000, 001, 002 affine_ds: ds.copy_from(s)
unfoldable pub affine_ds_of : Cone → List Float → List Float → Lent ℕ
affine_ds_of c ds s = settle (copy_rows c (length ds) s) (record { answer = 0; slice = s }) (refuse ds)

-- 000, 001, 002 Δs_from_Δz_offset: out.copy_from(ds)
unfoldable pub ds_from_dz_offset_of : Cone → List Float → List Float → List Float → Lent ℕ
ds_from_dz_offset_of c out ds z = settle (offset_rows c (length out) ds z) (record { answer = 0; slice = ds }) (refuse out)
