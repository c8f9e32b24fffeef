-- What can be wrong with the arguments of a search of one cone; and the first row that applies. Definitions only.
use Rattle.std.specs.Prelude.{ℕ, List, Float}
use Rattle.cone.specs.declared.Cone.{Cone}
use Rattle.cone.specs.declared.Settings.{Settings}
use Rattle.cone.specs.declared.table.Faults.{Faults}
use Rattle.cone.specs.Codes.{numel_of}
use Rattle.cone.specs.table.Table.{first_row}
use Rattle.judges.specs.Refusals.{bad_cone}
use Rattle.call_search.specs.Rows.{side_faults, both_faults}

-- 01: "`backtrack_search`, where public, is judged as a cone entry"
unfoldable pub search_faults : Cone → List Float → List Float → ℕ → Settings → Faults
search_faults c dq q point s = side_faults (bad_cone c) (numel_of c) dq q point s

abbrev pub search_rows : Cone → List Float → List Float → ℕ → Settings → ℕ
search_rows c dq q point s = first_row (search_faults c dq q point s)

-- 000, 001, 002 step_length: what is wrong on one side refuses both
unfoldable pub step_faults : Cone → List Float → List Float → List Float → List Float → ℕ → ℕ → Settings → Faults
step_faults c dz ds z s dual_point primal_point settings = both_faults (bad_cone c) (numel_of c) dz ds z s dual_point primal_point settings

abbrev pub step_rows : Cone → List Float → List Float → List Float → List Float → ℕ → ℕ → Settings → ℕ
step_rows c dz ds z s dual_point primal_point settings = first_row (step_faults c dz ds z s dual_point primal_point settings)
