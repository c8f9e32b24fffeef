-- Order 12 of the six calls of include/spindle.h, whatever their callers pass. `Post` is the claim of a call's `ensures`, and `GoodsP`
-- what holds of the arguments of every call: a cone that is passed has 32 exponent places, all doubles. That a test's point holds doubles,
-- its contract says itself. So nothing is asked of a caller but Order 12's sizes. Statements; proofs/yes_of_calls/Exports has the proofs.
use Rattle.std.specs.Prelude.{◌<◌, ℕ, ◌≡◌, Bool, true, false, List, Float, length}
use denote.Triple.Clauses.{AtExit}
use contract.Lifetimes.{Lfts}
use borrow.Fn.Kinds.{Dens, GoodsP, res_t, ended_of}
use Rattle.cone.specs.declared.Cone.{Cone}
use Rattle.cone.specs.declared.verdict.Verdict.{Verdict}
use Rattle.cone.specs.declared.verdict.Answer.TheVariants.{No, Yes}
use Rattle.cone.specs.verdict.Answers.{number_of}
use Rattle.cone.specs.words.Words.{cones_of}
use Rattle.call_cone.specs.formulas.Entries.{verdict_of}
use Rattle.search.specs.plan.EachCone.{cone_at, part_of}
use Rattle.spindle.proofs.spindle_is_primal_feasible.Kinds as primal_kinds
use Rattle.spindle.proofs.spindle_is_primal_feasible.Reads as primal
use Rattle.spindle.proofs.spindle_is_dual_feasible.Kinds as dual_kinds
use Rattle.spindle.proofs.spindle_is_dual_feasible.Reads as dual
use Rattle.spindle.proofs.spindle_backtrack_search.Kinds as search_kinds
use Rattle.spindle.proofs.spindle_backtrack_search.Reads as search
use Rattle.spindle.proofs.spindle_step_length.Kinds as step_kinds
use Rattle.spindle.proofs.spindle_step_length.Reads as step
use Rattle.spindle.proofs.spindle_common_step.Kinds as common_kinds
use Rattle.spindle.proofs.spindle_common_step.Reads as common
use Rattle.spindle.proofs.spindle_plan_step.Kinds as plan_kinds
use Rattle.spindle.proofs.spindle_plan_step.Reads as plan
use Rattle.promises.specs.yes_of_calls.Points.{AllInRange, ExactlyInside, BelowWall}
use Rattle.promises.specs.yes_of_calls.Searches.{StepCertain, BothCertain, PartsCertain}

-- "a yes .. means that the exact point is inside", "A no given on the residue means the same number is below zero"
pub record TestCertain (c : Cone) (primal : Bool) (p : List Float) (r : Verdict) : Type 0 where
  pub yes : r.answer ≡ number_of Yes → ExactlyInside c primal p
  pub no : r ≡ verdict_of No → BelowWall c primal p

-- the arguments: cone, point
abbrev pub PrimalTestCall : Type 0
PrimalTestCall =
    (κs : Lfts 1) (a : Dens κs primal_kinds.ps) (r : (res_t primal_kinds.r κs).Denot)
    (x : AtExit (ended_of 1 primal_kinds.ps primal_kinds.r) κs) → GoodsP κs primal_kinds.ps a → primal.Post κs a r x
    → AllInRange a.1.0.now → TestCertain a.0 true a.1.0.now r

abbrev pub DualTestCall : Type 0
DualTestCall =
    (κs : Lfts 1) (a : Dens κs dual_kinds.ps) (r : (res_t dual_kinds.r κs).Denot)
    (x : AtExit (ended_of 1 dual_kinds.ps dual_kinds.r) κs) → GoodsP κs dual_kinds.ps a → dual.Post κs a r x
    → AllInRange a.1.0.now → TestCertain a.0 false a.1.0.now r

-- the arguments: cone, side, direction, point, lent point, settings
abbrev pub BacktrackSearchCall : Type 0
BacktrackSearchCall =
    (κs : Lfts 3) (a : Dens κs search_kinds.ps) (r : (res_t search_kinds.r κs).Denot)
    (x : AtExit (ended_of 3 search_kinds.ps search_kinds.r) κs) → GoodsP κs search_kinds.ps a → search.Post κs a r x
    → StepCertain a.0 a.1.0 r.step x.1.1.1.1.0.now

-- the arguments: cone, dz, ds, z, s, both lent points, settings
abbrev pub StepLengthCall : Type 0
StepLengthCall =
    (κs : Lfts 6) (a : Dens κs step_kinds.ps) (r : (res_t step_kinds.r κs).Denot)
    (x : AtExit (ended_of 6 step_kinds.ps step_kinds.r) κs) → GoodsP κs step_kinds.ps a → step.Post κs a r x
    → BothCertain a.0 (record { answer = r; first = x.1.1.1.1.1.0.now; second = x.1.1.1.1.1.1.0.now })

-- the arguments: cones in memory, side, direction, point, lent point, settings
abbrev pub CommonStepCall : Type 0
CommonStepCall =
    (κs : Lfts 4) (a : Dens κs common_kinds.ps) (r : (res_t common_kinds.r κs).Denot)
    (x : AtExit (ended_of 4 common_kinds.ps common_kinds.r) κs) → common.Post κs a r x
    → let cones = cones_of a.0.now in
    (i : ℕ) → i < length cones → StepCertain (cone_at cones i) a.1.0 r.step (part_of cones i x.1.1.1.1.0.now)

-- the arguments: cones in memory, dz, ds, z, s, both lent points, settings
abbrev pub PlanStepCall : Type 0
PlanStepCall =
    (κs : Lfts 7) (a : Dens κs plan_kinds.ps) (r : (res_t plan_kinds.r κs).Denot)
    (x : AtExit (ended_of 7 plan_kinds.ps plan_kinds.r) κs) → plan.Post κs a r x
    → let cones = cones_of a.0.now in
    (i : ℕ) → i < length cones
    → PartsCertain cones i (record { answer = r; first = x.1.1.1.1.1.0.now; second = x.1.1.1.1.1.1.0.now })

pub record CallsCertain : Type 0 where
  pub primal_test : PrimalTestCall
  pub dual-test : DualTestCall
  pub backtrack_search_lem : BacktrackSearchCall
  pub step_length_lem : StepLengthCall
  pub common_step_lem : CommonStepCall
  pub plan_step_lem : PlanStepCall
