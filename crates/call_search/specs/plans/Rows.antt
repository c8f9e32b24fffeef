-- What can be wrong with a plan's arguments; and the first row that applies. Definitions only.
use Rattle.std.specs.Prelude.{ℕ, not, List, Float}
use Rattle.cone.specs.declared.Cone.{Cone}
use Rattle.cone.specs.declared.Settings.{Settings}
use Rattle.cone.specs.declared.table.Faults.{Faults}
use Rattle.cone.specs.table.Table.{first_row}
use Rattle.search.specs.plan.Plans.{plan_ok, total_of}
use Rattle.call_search.specs.Rows.{side_faults, both_faults}

-- 02, Order 10: "Refusals: 1 for a bad cone or list length, 2 if the lengths of the cones do not add up to the vectors'."
unfoldable pub plan_faults : List Cone → List Float → List Float → ℕ → Settings → Faults
plan_faults cs dq q point s = side_faults (not (plan_ok cs)) (total_of cs) dq q point s

abbrev pub plan_rows : List Cone → List Float → List Float → ℕ → Settings → ℕ
plan_rows cs dq q point s = first_row (plan_faults cs dq q point s)

-- 01: "It is refused as the common step is, with every one of the six lengths judged": what is wrong on one side refuses both
unfoldable pub sides_faults : List Cone → List Float → List Float → List Float → List Float → ℕ → ℕ → Settings → Faults
sides_faults cs dz ds z s dual_point primal_point settings =
    both_faults (not (plan_ok cs)) (total_of cs) dz ds z s dual_point primal_point settings

abbrev pub sides_rows : List Cone → List Float → List Float → List Float → List Float → ℕ → ℕ → Settings → ℕ
sides_rows cs dz ds z s dual_point primal_point settings = first_row (sides_faults cs dz ds z s dual_point primal_point settings)
