-- Demand 3 of the exports: the contract equates what a call answers and leaves with the definition of which demand 3 is proved, and its
-- settings are doubles by their type. Assumes nothing.
use mathlib.Core.Path.{sym, subst}
use Rattle.cone.specs.declared.Found.{Found}
use Rattle.cone.specs.declared.Steps.{Steps}
use Rattle.cone.specs.words.Words.{cones_of}
use Rattle.judges.specs.Refusals.{Lent, LentTwo}
use Rattle.search.proofs.Settings.{of_true}
use Rattle.call_search.specs.single.Demand3.{Doubles}
use Rattle.promises.specs.demand_three.Searches.{SearchOwes, StepOwes, CommonOwes, PlanOwes}
use Rattle.promises.specs.demand_three.Calls.{OfBacktrackSearch, OfStepLength, OfCommonStep, OfPlanStep, OfCalls}
use Rattle.promises.proofs.demand_three.Searches.{demand_three}

of_backtrack_search : OfBacktrackSearch
of_backtrack_search κs a r x g p =
    let point = a.1.1.1.1.0.now in
    let how = a.1.1.1.1.1.0 in
    let doubles = g.1.1.1.1.1.0.1.1 in
    let d : Doubles how = record { start = of_true _ doubles.0.1; smallest = of_true _ doubles.1.1.0.1 } in
    subst (λ (l : Lent Found). SearchOwes a.0 a.1.0 a.1.1.0.now a.1.1.1.0.now point how l) (sym p)
    (demand_three.backtrack_search_lem _ _ _ _ point how d)

of_step_length : OfStepLength
of_step_length κs a r x g p =
    let dual = a.1.1.1.1.1.0.now in
    let primal = a.1.1.1.1.1.1.0.now in
    let how = a.1.1.1.1.1.1.1.0 in
    let doubles = g.1.1.1.1.1.1.1.0.1.1 in
    let d : Doubles how = record { start = of_true _ doubles.0.1; smallest = of_true _ doubles.1.1.0.1 } in
    subst
    (λ (l : LentTwo Steps).
    StepOwes a.0 a.1.0.now a.1.1.0.now a.1.1.1.0.now a.1.1.1.1.0.now dual primal how l)
    (sym p) (demand_three.step_length_lem _ _ _ _ _ dual primal how d)

of-common_step : OfCommonStep
of-common_step κs a r x g p =
    let point = a.1.1.1.1.0.now in
    let how = a.1.1.1.1.1.0 in
    let doubles = g.1.1.1.1.1.0.1.1 in
    let d : Doubles how = record { start = of_true _ doubles.0.1; smallest = of_true _ doubles.1.1.0.1 } in
    subst (λ (l : Lent Found). CommonOwes (cones_of a.0.now) a.1.0 a.1.1.0.now a.1.1.1.0.now point how l) (sym p)
    (demand_three.common_step_lem _ _ _ _ point how d)

of_plan_step : OfPlanStep
of_plan_step κs a r x g p =
    let dual = a.1.1.1.1.1.0.now in
    let primal = a.1.1.1.1.1.1.0.now in
    let how = a.1.1.1.1.1.1.1.0 in
    let doubles = g.1.1.1.1.1.1.1.0.1.1 in
    let d : Doubles how = record { start = of_true _ doubles.0.1; smallest = of_true _ doubles.1.1.0.1 } in
    subst
    (λ (l : LentTwo Found).
    PlanOwes (cones_of a.0.now) a.1.0.now a.1.1.0.now a.1.1.1.0.now a.1.1.1.1.0.now dual primal how l)
    (sym p) (demand_three.plan_step_lem _ _ _ _ _ dual primal how d)

pub of_calls : OfCalls
of_calls = record {
  backtrack_search_lem = of_backtrack_search;
  step_length_lem = of_step_length;
  common_step_lem = of-common_step;
  plan_step_lem = of_plan_step;
}
