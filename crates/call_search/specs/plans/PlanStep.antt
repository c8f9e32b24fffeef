-- One step for both sides, of the entry itself: what a call that is not refused hands back. The statements only; proofs/plans/PlanStep
-- shows them.
use Rattle.std.specs.Prelude.{ℕ, ◌*◌, ◌≤◌, ◌<◌, ◌≡◌, ◌⊎◌, true, false, not, List, [], ◌∷◌, ◌++◌, Float, length}
use Rattle.std.specs.Float.Ieee.{is_nan}
use Rattle.double.specs.Numbers.{#0}
use Rattle.cone.specs.declared.Cone.{Cone}
use Rattle.cone.specs.declared.Settings.{Settings}
use Rattle.cone.specs.declared.Found.{Found}
use Rattle.judges.specs.Refusals.{LentTwo}
use Rattle.search.specs.trials.Trials.{bound}
use Rattle.search.specs.trials.Search.{passes_at}
use Rattle.search.specs.trials.FirstPassing.{NonePasses}
use Rattle.search.specs.trials.LargestPassing.{LargestPassing}
use Rattle.search.specs.Points.{trial_point, all_numbers}
use Rattle.call_search.specs.single.Entries.{step_length_of}
use Rattle.call_search.specs.single.Demand3.{Doubles, outcome_of}
use Rattle.search.specs.plan.Sides.{both_pass, sides_problem, sides_of}
use Rattle.search.specs.plan.EachSide.{PassesBoth, Beside}
use Rattle.call_search.specs.plans.Entries.{common_step_of, plan_step_of}

module _ (cs : List Cone) (dz ds z s : List Float) (settings : Settings) where
  -- 01: "Both lent points hold what was tested": the two points of the step, and each cone passes on both of its parts
  pub record HoldsTested (l : LentTwo Found) : Type 0 where
    pub dual-point : l.first ≡ trial_point z dz l.answer.step
    pub primal_point : l.second ≡ trial_point s ds l.answer.step
    pub each_passes : (i : ℕ) → i < length cs → PassesBoth cs l.first l.second i

  -- 01: "or z and s for zero": at no allowed trial do all pass on both sides
  pub record HoldsStart (l : LentTwo Found) : Type 0 where
    pub step_zero : l.answer.step ≡ #0
    pub dual-point : l.first ≡ z
    pub primal_point : l.second ≡ s
    pub none_passes : NonePasses (sides_problem cs dz ds z s settings)

  pub record BothAsOrdered (l : LentTwo Found) : Type 0 where
    -- 01: "the largest trial, in the same sequence as for one cone, at which every cone passes on both sides; zero exactly if there is
    -- none": of the search whose point is the dual one and the primal one behind it
    pub largest_passing : LargestPassing (sides_of cs dz ds z s settings) (outcome_of l.answer (l.first ++ l.second))
    -- a trial passes there as both sides' points of that trial pass
    pub trial-passes : (α : Float) → passes_at (sides_problem cs dz ds z s settings) α ≡ both_pass cs (trial_point z dz α) (trial_point s ds α)
    pub tested_or_start : HoldsTested l ⊎ HoldsStart l
    -- 01: "Single tests are counted, at most 2 · cones · the bound of one search"
    pub tests_at_most : l.answer.count ≤ 2 * length cs * bound settings
    -- none of the numbers is a NaN, so that their bits are determined
    pub step_number : not (is_nan l.answer.step) ≡ true
    pub dual-numbers : all_numbers l.first ≡ true
    pub primal_numbers : all_numbers l.second ≡ true

abbrev pub PlanStepMeets : Type 0
PlanStepMeets =
    (cs : List Cone) (dz ds z s dual_point primal_point : List Float) (settings : Settings) → Doubles settings
    → let l = plan_step_of cs dz ds z s dual_point primal_point settings in
    l.answer.code ≡ 0 → BothAsOrdered cs dz ds z s settings l

-- ---- beside the steps that the sides have by themselves

-- what is let through here, the common step lets through on each side
abbrev pub BesideTwoSteps : Type 0
BesideTwoSteps =
    (cs : List Cone) (dz ds z s dual_point primal_point : List Float) (settings : Settings) → Doubles settings
    → let both = (plan_step_of cs dz ds z s dual_point primal_point settings).answer in
    let dual = (common_step_of cs false dz z dual_point settings).answer in
    let primal = (common_step_of cs true ds s primal_point settings).answer in
    both.code ≡ 0 → (dual.code ≡ 0) × (primal.code ≡ 0) × Beside both.step dual.step primal.step

-- with one cone in the list: the refusals of its step_length, and a step beside its two
abbrev pub OneConeBothSides : Type 0
OneConeBothSides =
    (c : Cone) (dz ds z s dual_point primal_point : List Float) (settings : Settings)
    → let both = (plan_step_of (c ∷ []) dz ds z s dual_point primal_point settings).answer in
    let two = (step_length_of c dz ds z s dual_point primal_point settings).answer in
    (both.code ≡ two.code) × (Doubles settings → both.code ≡ 0 → Beside both.step two.dualstep two.primalstep)
