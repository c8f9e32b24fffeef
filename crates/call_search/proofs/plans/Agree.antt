-- 01: "For each, show that any two outcomes allowed by it agree". Every contract here is one equation. Assumes nothing.
use mathlib.Core.Path.{◌∙◌, sym}
use mathlib.Core.List.{List}
use lib.Ieee.{Float}
use Rattle.arith.specs.Outcomes.{OneOutcome}
use Rattle.cone.specs.declared.Found.{Found}
use Rattle.judges.proofs.Outcomes.{one, two}
use Rattle.call_search.proofs.plans.common_step.Reads as common_step
use Rattle.call_search.proofs.plans.plan_step.Reads as plan_step

-- the point is the fifth argument
pub common_step_agrees : OneOutcome common_step.Post {A = List Float} (λ κs s. s.1.1.1.1.0.now)
common_step_agrees κs a x y s t p q = one {A = Found} (p ∙ sym q)

-- the points are the sixth and the seventh argument
pub plan_step_agrees :
    OneOutcome plan_step.Post {A = List Float × List Float} (λ κs s. (s.1.1.1.1.1.0.now, s.1.1.1.1.1.1.0.now))
plan_step_agrees κs a x y s t p q = two {A = Found} (p ∙ sym q)
