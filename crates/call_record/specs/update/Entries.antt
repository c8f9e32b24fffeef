-- What update_scaling answers, for all arguments. Definitions only.
use Rattle.std.specs.Prelude.{ℕ, ◌+◌, ◌||◌, ◌&&◌, not, List, Float}
use Rattle.std.specs.Float.Ieee.Scale.{finite}
use Rattle.cone.specs.declared.Scaling.{Scaling}
use Rattle.cone.specs.declared.Updated.{Updated}
use Rattle.cone.specs.Codes.{numel_of}
use Rattle.judges.specs.Judges.{all_finite, record_finite}
use Rattle.cone.specs.table.Table.{update_faults, first_row, settle}
use Rattle.judges.specs.Refusals.{bad_cone, other_length, bad_strategy, is_spent, settle_record, refuse_update}
use Rattle.scaling.specs.Updates.{new_record_of}

-- 01: "Every argument of a call is judged, read or not, a passed record's numbers under 3 included."
unfoldable pub update_rows : Scaling → List Float → List Float → Float → ℕ → ℕ
update_rows r s z μ strategy =
    let n = numel_of r.cone in
    first_row
    (update_faults (bad_cone r.cone)
    (other_length n s || other_length n z)
    (not (all_finite s && all_finite z && finite μ && record_finite r))
    (bad_strategy strategy)
    (is_spent r))

-- the record with this serial
abbrev pub numbered : ℕ → Scaling → Scaling
numbered n r = record { cone = r.cone; scaled = r.scaled; serial = n; three = r.three; wide = r.wide }

abbrev pub completed : ℕ → Scaling → Updated
completed serial new = record { code = 0; scaling = numbered serial new }

-- 000, 001, 002 update_scaling, both scalings. 02, Order 6: "one more after each completed update, unchanged by a refused one"; "An update
-- now depends on its cone, its arguments and the old serial, nothing else of the old record": of r, a completed update's answer has the
-- cone and the serial alone (Updates).
unfoldable pub update_scaling_of : Scaling → List Float → List Float → Float → ℕ → Updated
update_scaling_of r s z μ strategy =
    settle (update_rows r s z μ strategy)
    (settle_record (new_record_of r.cone s z μ strategy) (completed (r.serial + 1)) (refuse_update r))
    (refuse_update r)
