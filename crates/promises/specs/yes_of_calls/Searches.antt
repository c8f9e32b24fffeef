-- Order 12 of the searches, over all three kinds: a step other than zero hands back a point that lies exactly inside. Of the definitions
-- that the contracts of the four calls name. Definitions only; proofs/yes_of_calls/Searches, CommonStep and PlanStep prove it. A refused
-- call has the step +0.
use Rattle.std.specs.Prelude.{ℕ, ◌<◌, ◌≡◌, Bool, true, false, List, Float, length}
use Rattle.double.specs.Numbers.{#0}
use Rattle.cone.specs.declared.Cone.{Cone}
use Rattle.cone.specs.declared.Settings.{Settings}
use Rattle.cone.specs.declared.Found.{Found}
use Rattle.cone.specs.declared.Steps.{Steps}
use Rattle.cone.specs.words.Words.{cones_of}
use Rattle.judges.specs.Refusals.{LentTwo}
use Rattle.call_search.specs.single.Entries.{backtrack_search_of, step_length_of}
use Rattle.search.specs.plan.EachCone.{cone_at, part_of}
use Rattle.call_search.specs.plans.Entries.{common_step_of, plan_step_of}
use Rattle.promises.specs.yes_of_calls.Points.{Held, AllInRange, ExactlyInside}

-- a step with the point of this cone that is handed back beside it; the point's numbers are rounded sums, and so doubles
abbrev pub StepCertain : Cone → Bool → Float → List Float → Type 0
StepCertain c primal step point = (step ≡ #0 → ⊥) → AllInRange point → ExactlyInside c primal point

-- 003 backtrack_search
abbrev pub SearchCertain : Type 0
SearchCertain =
    (c : Cone) → Held c → (primal : Bool) (dq q point : List Float) (s : Settings)
    → let l = backtrack_search_of c primal dq q point s in
    StepCertain c primal l.answer.step l.slice

-- 000, 001, 002 step_length, each side by itself
pub record BothCertain (c : Cone) (l : LentTwo Steps) : Type 0 where
  pub dual_side : StepCertain c false l.answer.dualstep l.first
  pub primal_side : StepCertain c true l.answer.primalstep l.second

abbrev pub StepLengthCertain : Type 0
StepLengthCertain =
    (c : Cone) → Held c → (dz ds z s dual_point primal_point : List Float) (settings : Settings)
    → BothCertain c (step_length_of c dz ds z s dual_point primal_point settings)

-- Order 10's common step, over cones as they lie in memory: each cone of the list on its part of the point
abbrev pub CommonStepCertain : Type 0
CommonStepCertain =
    (words : List (List ℕ)) (i : ℕ) → let cs = cones_of words in
    i < length cs → (primal : Bool) (dq q point : List Float) (s : Settings)
    → let l = common_step_of cs primal dq q point s in
    StepCertain (cone_at cs i) primal l.answer.step (part_of cs i l.slice)

-- one step for both sides of a plan: each cone on both of its parts
pub record PartsCertain (cs : List Cone) (i : ℕ) (l : LentTwo Found) : Type 0 where
  pub dual_side : StepCertain (cone_at cs i) false l.answer.step (part_of cs i l.first)
  pub primal_side : StepCertain (cone_at cs i) true l.answer.step (part_of cs i l.second)

abbrev pub PlanStepCertain : Type 0
PlanStepCertain =
    (words : List (List ℕ)) (i : ℕ) → let cs = cones_of words in
    i < length cs → (dz ds z s dual_point primal_point : List Float) (settings : Settings)
    → PartsCertain cs i (plan_step_of cs dz ds z s dual_point primal_point settings)
