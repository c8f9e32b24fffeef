-- What each entry over a record answers and leaves for kind 3, but for the two of `wide_primal`: of the record, the cone, the numbers of this
-- kind and, for the last two, whether it was never scaled and its serial. Definitions only; that they are the entries' own for this kind is
-- proved in `in_place`.
use Rattle.std.specs.Prelude.{ℕ, ◌+◌, false, not, ◌||◌, ◌&&◌, List, Float, length, take}
use Rattle.std.specs.Float.Ieee.Scale.{finite}
use Rattle.cone.specs.declared.Scaling.{Scaling}
use Rattle.cone.specs.declared.Number.{Number}
use Rattle.judges.specs.Judges.{all_finite, sides_finite, wide_finite}
use Rattle.judges.specs.Refusals.{other_length, never_scaled, other_serial}
use Rattle.cone.specs.table.Table.{settle}
use Rattle.judges.specs.Refusals.{Lent, refuse, refuse_number, publish_of, number_of}
use Rattle.genpowcone.specs.Rank3 as genRank3
use Rattle.kinds.specs.Wide as wide
use Rattle.call_record.specs.Rows.{record_rows}
use Rattle.call_record.specs.wide_rows.Rows.{bad_wide}

-- 002 compute_barrier; the step is the Rust's α
unfoldable pub compute_barrier_of : Scaling → List Float → List Float → List Float → List Float → Float → Number
compute_barrier_of r z s dz ds step =
    let c = r.cone in
    let n = c.dim1 + c.dim2 in
    let lengths = other_length n z || other_length n s || other_length n dz || other_length n ds in
    let number = not (sides_finite dz ds z s && finite step && wide_finite r.wide c.dim1 c.dim2) in
    settle (record_rows (bad_wide c) lengths number false false)
    (number_of (wide.compute_barrier_of c.exps c.dim1 z s dz ds step))
    refuse_number

-- ---- the scaling matrix

-- 002 get_Hs
unfoldable pub get_hs_of : Scaling → ℕ → List Float → Lent ℕ
get_hs_of r serial block =
    let c = r.cone in
    let number = not (wide_finite r.wide c.dim1 c.dim2) in
    settle (record_rows (bad_wide c) (other_length (c.dim1 + c.dim2) block) number (never_scaled r) (other_serial serial r))
    (publish_of block (take (length block) (wide.get_hs_of r.wide.mu r.wide.d1 c.dim1 r.wide.d2 c.dim2)))
    (refuse block)

-- 002 mul_Hs
unfoldable pub mul_hs_of : Scaling → ℕ → List Float → List Float → Lent ℕ
mul_hs_of r serial y x =
    let c = r.cone in
    let lengths = other_length (c.dim1 + c.dim2) y || other_length (c.dim1 + c.dim2) x in
    let number = not (all_finite x && wide_finite r.wide c.dim1 c.dim2) in
    settle (record_rows (bad_wide c) lengths number (never_scaled r) (other_serial serial r))
    (publish_of y (take (length y) (genRank3.mul_hs_of r.wide c.dim1 x)))
    (refuse y)
