-- What each entry over a record answers and leaves for kinds 1 and 2: of the record, the cone's kind, rule and exponent, the numbers of these
-- kinds and, for the last two, whether it was never scaled and its serial; the scaling matrix is in `blocks`. Definitions only; that they are
-- the entries' own for these kinds is proved in `in_place`.
use Rattle.std.specs.Prelude.{ℕ, Option, Some, None, false, not, ◌||◌, ◌&&◌, List, Float}
use Rattle.std.specs.Float.Ieee.Scale.{finite}
use Rattle.cone.specs.declared.Scaling.{Scaling}
use Rattle.cone.specs.declared.Number.{Number}
use Rattle.cone.specs.declared.Rounds.{Rounds}
use Rattle.judges.specs.Judges.{all_finite, sides_finite, three_finite}
use Rattle.cone.specs.Points.{three_of}
use Rattle.cone.specs.table.Table.{settle}
use Rattle.judges.specs.Refusals.{other_length, never_scaled, other_serial}
use Rattle.judges.specs.Refusals.{Lent, refuse, refuse_number, refuse_rounds, publish_of, judged_of, with_rounds}
use Rattle.kinds.specs.declared.three.ThreeGradient.{ThreeGradient}
use Rattle.kinds.specs.Cones.{alpha_of}
use Rattle.kinds.specs.Three as three
use Rattle.call_record.specs.Rows.{record_rows}
use Rattle.call_record.specs.blocks.Blocks.{bad_three}

-- ---- the primal side

-- 6: "Wright omega argument below 0" is kind 1's alone
abbrev pub published : List Float → Option ThreeGradient → Lent Rounds
published g None = refuse_rounds g 6
published g (Some a) = with_rounds a.rounds (publish_of g a.g)

-- 000, 001 gradient_primal
unfoldable pub gradient_primal_of : Scaling → List Float → List Float → Lent Rounds
gradient_primal_of r g s =
    let lengths = other_length 3 g || other_length 3 s in
    settle (record_rows (bad_three r.cone) lengths (not (all_finite s && three_finite r.three)) false false)
    (published g (three.gradient_primal_of r.cone.kind (alpha_of r.cone) (three_of s)))
    (refuse_rounds g)

-- 000, 001 barrier_primal
unfoldable pub barrier_primal_of : Scaling → List Float → Number
barrier_primal_of r s =
    settle (record_rows (bad_three r.cone) (other_length 3 s) (not (all_finite s && three_finite r.three)) false false)
    (judged_of (three.barrier_primal_of r.cone.kind (alpha_of r.cone) (three_of s)))
    refuse_number

-- 000, 001 compute_barrier; the step is the Rust's α
unfoldable pub compute_barrier_of : Scaling → List Float → List Float → List Float → List Float → Float → Number
compute_barrier_of r z s dz ds step =
    let lengths = other_length 3 z || other_length 3 s || other_length 3 dz || other_length 3 ds in
    let number = not (sides_finite dz ds z s && finite step && three_finite r.three) in
    settle (record_rows (bad_three r.cone) lengths number false false)
    (judged_of (three.compute_barrier_of r.cone.kind (alpha_of r.cone) (three_of z) (three_of s) (three_of dz) (three_of ds) step))
    refuse_number

-- ---- kinds 1 and 2 alone: another kind is no cone here

-- 000, 001 higher_correction
unfoldable pub higher_correction_of : Scaling → ℕ → List Float → List Float → List Float → Lent ℕ
higher_correction_of r serial η ds v =
    let t = r.three in
    let lengths = other_length 3 η || other_length 3 ds || other_length 3 v in
    let number = not (all_finite ds && all_finite v && three_finite t) in
    settle (record_rows (bad_three r.cone) lengths number (never_scaled r) (other_serial serial r))
    (publish_of η (three.higher_correction_of r.cone.kind (alpha_of r.cone) t.hdual t.z (three_of ds) (three_of v)))
    (refuse η)

-- 000, 001 combined_ds_shift
unfoldable pub combined_ds_shift_of : Scaling → ℕ → List Float → List Float → List Float → Float → Lent ℕ
combined_ds_shift_of r serial out stepz steps σμ =
    let t = r.three in
    let lengths = other_length 3 out || other_length 3 stepz || other_length 3 steps in
    let number = not (all_finite stepz && all_finite steps && finite σμ && three_finite t) in
    let shift =
    three.combined_ds_shift_of r.cone.kind (alpha_of r.cone) t.hdual t.z t.grad (three_of stepz) (three_of steps) σμ in
    settle (record_rows (bad_three r.cone) lengths number (never_scaled r) (other_serial serial r))
    (publish_of out shift)
    (refuse out)
