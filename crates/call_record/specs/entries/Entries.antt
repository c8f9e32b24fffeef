-- What each entry over a record answers and leaves, for all arguments. Definitions only.
use Rattle.std.specs.Prelude.{ℕ, Option, Some, cond, ◌&&◌, List, Float, length, take}
use Rattle.std.specs.Float.Ieee.Scale.{finite}
use Rattle.algebra.specs.Packed.{mul_of}
use Rattle.cone.specs.Codes.{is_wide}
use Rattle.cone.specs.declared.Scaling.{Scaling}
use Rattle.cone.specs.declared.Number.{Number}
use Rattle.cone.specs.declared.Rounds.{Rounds}
use Rattle.judges.specs.Judges.{all_finite}
use Rattle.cone.specs.Points.{three_of}
use Rattle.cone.specs.table.Table.{settle}
use Rattle.judges.specs.Refusals.{Lent, refuse, refuse_number, refuse_rounds, publish_of, judged_of, with_rounds}
use Rattle.genpowcone.specs.Rank3 as genRank3
use Rattle.kinds.specs.Cones.{alpha_of}
use Rattle.kinds.specs.Three as three
use Rattle.kinds.specs.Wide as wide
use Rattle.call_record.specs.three.Entries.{published}
use Rattle.call_record.specs.entries.Rows.{gradient_rows, barrier_rows, compute_rows, block_rows, product_rows, correction_rows}

-- ---- the primal side: of the record, the cone alone (ByCone)

-- 000, 001, 002 gradient_primal
unfoldable pub gradient_primal_of : Scaling → List Float → List Float → Lent Rounds
gradient_primal_of r g s =
    let c = r.cone in
    let w = wide.gradient_primal_of c.exps c.dim1 s in
    let t = three.gradient_primal_of c.kind (alpha_of c) (three_of s) in
    settle (gradient_rows r (length g) s)
    (cond (is_wide c.kind) (with_rounds w.rounds (publish_of g (take (length g) w.g))) (published g t))
    (refuse_rounds g)

-- 000, 001, 002 barrier_primal
unfoldable pub primal_barrier_of : Scaling → List Float → Option Float
primal_barrier_of r s =
    let c = r.cone in
    cond (is_wide c.kind)
    (Some (wide.barrier_primal_of c.exps c.dim1 s))
    (three.barrier_primal_of c.kind (alpha_of c) (three_of s))

unfoldable pub barrier_primal_of : Scaling → List Float → Number
barrier_primal_of r s = settle (barrier_rows r s) (judged_of (primal_barrier_of r s)) refuse_number

-- 000, 001, 002 compute_barrier; the step is the Rust's α
unfoldable pub combined_barrier_of : Scaling → List Float → List Float → List Float → List Float → Float → Option Float
combined_barrier_of r z s dz ds step =
    let c = r.cone in
    cond (is_wide c.kind)
    (Some (wide.compute_barrier_of c.exps c.dim1 z s dz ds step))
    (three.compute_barrier_of c.kind (alpha_of c) (three_of z) (three_of s) (three_of dz) (three_of ds) step)

unfoldable pub compute_barrier_of : Scaling → List Float → List Float → List Float → List Float → Float → Number
compute_barrier_of r z s dz ds step = settle (compute_rows r z s dz ds step) (judged_of (combined_barrier_of r z s dz ds step)) refuse_number

-- ---- the scaling matrix

-- 000, 001, 002 get_Hs
unfoldable pub get_hs_of : Scaling → ℕ → List Float → Lent ℕ
get_hs_of r serial block =
    let diagonal = wide.get_hs_of r.wide.mu r.wide.d1 r.cone.dim1 r.wide.d2 r.cone.dim2 in
    settle (block_rows r serial (length block))
    (cond (is_wide r.cone.kind) (publish_of block (take (length block) diagonal)) (publish_of block r.three.hs))
    (refuse block)

-- 000, 001, 002 mul_Hs
unfoldable pub mul_hs_of : Scaling → ℕ → List Float → List Float → Lent ℕ
mul_hs_of r serial y x =
    let product = genRank3.mul_hs_of r.wide r.cone.dim1 x in
    settle (product_rows r serial (length y) x)
    (cond (is_wide r.cone.kind) (publish_of y (take (length y) product)) (publish_of y (mul_of r.three.hs (three_of x))))
    (refuse y)

-- ---- kinds 1 and 2 alone

-- 000, 001 higher_correction
unfoldable pub higher_correction_of : Scaling → ℕ → List Float → List Float → List Float → Lent ℕ
higher_correction_of r serial η ds v =
    let t = r.three in
    settle (correction_rows r serial (length η) ds v (all_finite ds && all_finite v))
    (publish_of η (three.higher_correction_of r.cone.kind (alpha_of r.cone) t.hdual t.z (three_of ds) (three_of v)))
    (refuse η)

-- 000, 001 combined_ds_shift
unfoldable pub combined_ds_shift_of : Scaling → ℕ → List Float → List Float → List Float → Float → Lent ℕ
combined_ds_shift_of r serial out stepz steps σμ =
    let t = r.three in
    let shift =
    three.combined_ds_shift_of r.cone.kind (alpha_of r.cone) t.hdual t.z t.grad (three_of stepz) (three_of steps) σμ in
    settle (correction_rows r serial (length out) stepz steps (all_finite stepz && all_finite steps && finite σμ))
    (publish_of out shift)
    (refuse out)
