-- What the common step and the step of both sides answer and leave, for all arguments. Definitions only.
use Rattle.std.specs.Prelude.{ℕ, Bool, List, Float, length}
use Rattle.cone.specs.declared.Cone.{Cone}
use Rattle.cone.specs.declared.Settings.{Settings}
use Rattle.cone.specs.declared.Found.{Found}
use Rattle.cone.specs.table.Table.{settle}
use Rattle.double.specs.Numbers.{#0}
use Rattle.judges.specs.Refusals.{Lent, LentTwo}
use Rattle.search.specs.trials.Costed.{costed_of}
use Rattle.call_search.specs.single.Entries.{found, refuse_found}
use Rattle.search.specs.declared.Searched.{Searched}
use Rattle.search.specs.plan.Plans.{plan_of}
use Rattle.search.specs.plan.Sides.{sides_of, in_sides}
use Rattle.call_search.specs.plans.Rows.{plan_rows, sides_rows}

-- 02, Order 10: "one common step". The answer has the shape of one search's, and so has a refusal
unfoldable pub common_step_of : List Cone → Bool → List Float → List Float → List Float → Settings → Lent Found
common_step_of cs primal dq q point s =
    settle (plan_rows cs dq q (length point) s)
    (found (costed_of (plan_of cs primal dq q s)))
    (refuse_found point)

-- ---- one step for both sides

-- the number 0 beside what the search found
abbrev pub found_on_sides : LentTwo Searched → LentTwo Found
found_on_sides l = record {
  answer = record { code = 0; count = l.answer.count; step = l.answer.step };
  first = l.first;
  second = l.second;
}

-- 01: "A refusal returns zeros for all numbers", "changes no lent buffer"
abbrev pub refuse_sides : List Float → List Float → ℕ → LentTwo Found
refuse_sides dual_point primal_point k =
    record { answer = record { code = k; count = 0; step = #0 }; first = dual_point; second = primal_point }

-- 01: "One step for both sides of a plan"
unfoldable pub plan_step_of
    : List Cone → List Float → List Float → List Float → List Float → List Float → List Float → Settings → LentTwo Found
plan_step_of cs dz ds z s dual_point primal_point settings =
    settle (sides_rows cs dz ds z s (length dual_point) (length primal_point) settings)
    (found_on_sides (in_sides cs (costed_of (sides_of cs dz ds z s settings))))
    (refuse_sides dual_point primal_point)
