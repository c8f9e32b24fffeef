-- Demand 3 of the four calls of include/spindle.h, whatever their callers pass: no premise is left but demand 3's own. `Post` is the claim
-- of a call's `ensures`, and `GoodsP` what holds of the arguments of every call: each f64 is a double. Statements;
-- proofs/demand_three/Calls has the proofs.
use denote.Triple.Clauses.{AtExit}
use contract.Lifetimes.{Lfts}
use borrow.Fn.Kinds.{Dens, GoodsP, res_t, ended_of}
use Rattle.cone.specs.words.Words.{cones_of}
use Rattle.spindle.proofs.spindle_backtrack_search.Kinds as search_kinds
use Rattle.spindle.proofs.spindle_backtrack_search.Reads as search
use Rattle.spindle.proofs.spindle_step_length.Kinds as step_kinds
use Rattle.spindle.proofs.spindle_step_length.Reads as step
use Rattle.spindle.proofs.spindle_common_step.Kinds as common_kinds
use Rattle.spindle.proofs.spindle_common_step.Reads as common
use Rattle.spindle.proofs.spindle_plan_step.Kinds as plan_kinds
use Rattle.spindle.proofs.spindle_plan_step.Reads as plan
use Rattle.promises.specs.demand_three.Searches.{SearchOwes, StepOwes, CommonOwes, PlanOwes}

-- the arguments: cone, side, direction, point, lent point, settings
abbrev pub OfBacktrackSearch : Type 0
OfBacktrackSearch =
    (κs : Lfts 3) (a : Dens κs search_kinds.ps) (r : (res_t search_kinds.r κs).Denot)
    (x : AtExit (ended_of 3 search_kinds.ps search_kinds.r) κs) → GoodsP κs search_kinds.ps a → search.Post κs a r x
    → SearchOwes a.0 a.1.0 a.1.1.0.now a.1.1.1.0.now a.1.1.1.1.0.now a.1.1.1.1.1.0
    (record { answer = r; slice = x.1.1.1.1.0.now })

-- the arguments: cone, dz, ds, z, s, both lent points, settings
abbrev pub OfStepLength : Type 0
OfStepLength =
    (κs : Lfts 6) (a : Dens κs step_kinds.ps) (r : (res_t step_kinds.r κs).Denot)
    (x : AtExit (ended_of 6 step_kinds.ps step_kinds.r) κs) → GoodsP κs step_kinds.ps a → step.Post κs a r x
    → StepOwes a.0 a.1.0.now a.1.1.0.now a.1.1.1.0.now a.1.1.1.1.0.now a.1.1.1.1.1.0.now
    a.1.1.1.1.1.1.0.now a.1.1.1.1.1.1.1.0
    (record { answer = r; first = x.1.1.1.1.1.0.now; second = x.1.1.1.1.1.1.0.now })

-- the arguments: cones, side, direction, point, lent point, settings
abbrev pub OfCommonStep : Type 0
OfCommonStep =
    (κs : Lfts 4) (a : Dens κs common_kinds.ps) (r : (res_t common_kinds.r κs).Denot)
    (x : AtExit (ended_of 4 common_kinds.ps common_kinds.r) κs) → GoodsP κs common_kinds.ps a → common.Post κs a r x
    → CommonOwes (cones_of a.0.now) a.1.0 a.1.1.0.now a.1.1.1.0.now a.1.1.1.1.0.now
    a.1.1.1.1.1.0 (record { answer = r; slice = x.1.1.1.1.0.now })

-- the arguments: cones, dz, ds, z, s, both lent points, settings
abbrev pub OfPlanStep : Type 0
OfPlanStep =
    (κs : Lfts 7) (a : Dens κs plan_kinds.ps) (r : (res_t plan_kinds.r κs).Denot)
    (x : AtExit (ended_of 7 plan_kinds.ps plan_kinds.r) κs) → GoodsP κs plan_kinds.ps a → plan.Post κs a r x
    → PlanOwes (cones_of a.0.now) a.1.0.now a.1.1.0.now a.1.1.1.0.now a.1.1.1.1.0.now
    a.1.1.1.1.1.0.now a.1.1.1.1.1.1.0.now a.1.1.1.1.1.1.1.0
    (record { answer = r; first = x.1.1.1.1.1.0.now; second = x.1.1.1.1.1.1.0.now })

pub record OfCalls : Type 0 where
  pub backtrack_search_lem : OfBacktrackSearch
  pub step_length_lem : OfStepLength
  pub common_step_lem : OfCommonStep
  pub plan_step_lem : OfPlanStep
