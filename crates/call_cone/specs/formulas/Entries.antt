-- What each entry over a cone answers and leaves, for all arguments. Definitions only.
use Rattle.std.specs.Prelude.{ℕ, cond, List, eqb, Float, length, take}
use Rattle.cone.specs.Codes.{is_wide}
use Rattle.cone.specs.declared.Cone.{Cone}
use Rattle.cone.specs.declared.Updated.{Updated}
use Rattle.cone.specs.declared.YesNo.{YesNo}
use Rattle.cone.specs.declared.Number.{Number}
use Rattle.cone.specs.declared.DualGrad.{DualGrad}
use Rattle.cone.specs.declared.Scaling.{Scaling}
use Rattle.cone.specs.Fresh as fresh
use Rattle.cone.specs.Fresh.{empty_cone, no_three, no_wide}
use Rattle.cone.specs.table.Table.{settle}
use Rattle.judges.specs.Refusals.{settle_record, Lent, LentTwo, refuse, refuse_two, refuse_number, publish_of, publish_two_of, number_of}
use Rattle.kinds.specs.Cones as kinds
use Rattle.kinds.specs.Cones.{alpha_of}
use Rattle.kinds.specs.Three as three
use Rattle.kinds.specs.Wide as wide
use Rattle.call_cone.specs.formulas.Rows.{fresh_rows, read_rows, unit_rows, copy_rows}
use Rattle.call_cone.specs.formulas.Equilibration.{rectified_of}
-- 000, 001, 002 is_primal_feasible, is_dual_feasible
pub use Rattle.call_cone.specs.feasibility.Entries.{refuse_verdict, verdict_of}
unfoldable pub use Rattle.call_cone.specs.feasibility.Entries.{is_primal_feasible_of, is_dual_feasible_of}
-- 000, 001, 002 affine_ds, Δs_from_Δz_offset
unfoldable pub use Rattle.call_cone.specs.copies.Entries.{affine_ds_of, ds_from_dz_offset_of}

-- 01: "(fresh: no, and all its numbers +0)". A bad cone gets the record of no cone: "A refusal returns zeros for all numbers"
unfoldable pub fresh_of : Cone → Updated
fresh_of c =
    settle (fresh_rows c)
    (record { code = 0; scaling = fresh.fresh_of c })
    (λ k. record { code = k; scaling = fresh.fresh_of empty_cone })

-- ---- entries that read a point

-- 000, 001, 002 barrier_dual
unfoldable pub barrier_dual_of : Cone → List Float → Number
barrier_dual_of c z = settle (read_rows c z) (number_of (kinds.barrier_dual_of c z)) refuse_number

-- 000, 001, 002 update_dual_grad_H, by value. 7 looks at all that is handed back
unfoldable pub refuse_grad : ℕ → DualGrad
refuse_grad k = record { code = k; three = no_three; wide = no_wide }

abbrev pub grad_of : Scaling → DualGrad
grad_of new = record { code = 0; three = new.three; wide = new.wide }

unfoldable pub dual_grad_h_of : Cone → List Float → DualGrad
dual_grad_h_of c z = settle (read_rows c z) (settle_record (kinds.dual_grad_h_of c z) grad_of refuse_grad) refuse_grad

-- ---- entries that only write, or copy

-- 000, 001, 002 unit_initialization
unfoldable pub unit_initialization_of : Cone → List Float → List Float → LentTwo ℕ
unit_initialization_of c z s =
    let generalized = take (length z) (wide.unit_initialization_of c.exps c.dim1) in
    let unit = three.unit_initialization_of c.kind (alpha_of c) in
    settle (unit_rows c (length z) (length s))
    (cond (is_wide c.kind) (publish_two_of z s generalized generalized) (publish_two_of z s unit unit))
    (refuse_two z s)

-- 000, 001, 002 rectify_equilibration. It says yes, always: where the port refuses, it says no
unfoldable pub rectify_of : Cone → List Float → List Float → Lent ℕ
rectify_of c δ e = settle (copy_rows c (length δ) e) (publish_of δ (rectified_of e)) (refuse δ)

abbrev pub yes_if_done : Lent ℕ → Lent YesNo
yes_if_done l = record { answer = record { code = l.answer; yes = eqb l.answer 0 }; slice = l.slice }

unfoldable pub rectify_equilibration_of : Cone → List Float → List Float → Lent YesNo
rectify_equilibration_of c δ e = yes_if_done (rectify_of c δ e)
