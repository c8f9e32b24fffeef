-- The rows of the table that judge each entry over a record. Definitions only.
-- 01: "Every argument of a call is judged, read or not, a passed record's numbers under 3 included."
use Rattle.std.specs.Prelude.{ℕ, Bool, false, ◌||◌, ◌&&◌, not, List, eqb, Float}
use Rattle.std.specs.Float.Ieee.Scale.{finite}
use Rattle.cone.specs.declared.Scaling.{Scaling}
use Rattle.cone.specs.Codes.{numel_of, block_of}
use Rattle.judges.specs.Judges.{all_finite, sides_finite, record_finite}
use Rattle.judges.specs.Refusals.{bad_cone, bad_cone_3d, other_length, never_scaled, other_serial}
use Rattle.call_record.specs.Rows.{record_rows}

-- A slice that is only written is given by its length.

-- 02, Order 4: "5 is no longer given for these two or the combined barrier". The first three rows here ask for no scaling

-- gradient_primal
unfoldable pub gradient_rows : Scaling → ℕ → List Float → ℕ
gradient_rows r g s =
    let n = numel_of r.cone in
    record_rows (bad_cone r.cone) (not (eqb g n) || other_length n s) (not (all_finite s && record_finite r)) false false

-- barrier_primal
unfoldable pub barrier_rows : Scaling → List Float → ℕ
barrier_rows r s =
    record_rows (bad_cone r.cone)
    (other_length (numel_of r.cone) s)
    (not (all_finite s && record_finite r))
    false false

-- compute_barrier; the step, the Rust's α, may be any finite number
unfoldable pub compute_rows : Scaling → List Float → List Float → List Float → List Float → Float → ℕ
compute_rows r z s dz ds step =
    let n = numel_of r.cone in
    record_rows (bad_cone r.cone)
    (other_length n z || other_length n s || other_length n dz || other_length n ds)
    (not (sides_finite dz ds z s && finite step && record_finite r))
    false false

-- 02, Order 6: "`get_Hs`, `mul_Hs`, correction and combined shift name the serial they expect."

-- get_Hs
unfoldable pub block_rows : Scaling → ℕ → ℕ → ℕ
block_rows r serial block =
    record_rows (bad_cone r.cone)
    (not (eqb block (block_of r.cone)))
    (not (record_finite r))
    (never_scaled r) (other_serial serial r)

-- mul_Hs
unfoldable pub product_rows : Scaling → ℕ → ℕ → List Float → ℕ
product_rows r serial y x =
    let n = numel_of r.cone in
    record_rows (bad_cone r.cone)
    (not (eqb y n) || other_length n x)
    (not (all_finite x && record_finite r))
    (never_scaled r) (other_serial serial r)

-- higher_correction and combined_ds_shift; `numbers` says whether the call's own are finite
unfoldable pub correction_rows : Scaling → ℕ → ℕ → List Float → List Float → Bool → ℕ
correction_rows r serial out a b numbers =
    record_rows (bad_cone_3d r.cone)
    (not (eqb out 3) || other_length 3 a || other_length 3 b)
    (not (numbers && record_finite r))
    (never_scaled r) (other_serial serial r)
