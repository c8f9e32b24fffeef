-- Demand 3 as one theorem of the four searches: its premises, which refuse nothing, and what it asks for then. `AsDemanded` is the record
-- of demand 3's conclusion, sentence by sentence; `AsOrdered` and `BothAsOrdered` are that of a plan, with Order 10's words. Statements
-- only: proofs/demand_three/Searches has the proofs of the definitions that the contracts name, proofs/demand_three/Calls of the calls
-- themselves.
use Rattle.std.specs.Prelude.{◌≡◌, Bool, List, Float}
use Rattle.cone.specs.declared.Cone.{Cone}
use Rattle.cone.specs.declared.Settings.{Settings}
use Rattle.cone.specs.declared.Found.{Found}
use Rattle.cone.specs.declared.Steps.{Steps}
use Rattle.cone.specs.Codes.{numel_of}
use Rattle.judges.specs.Refusals.{Lent, LentTwo}
use Rattle.search.specs.Problems.{problem_of}
use Rattle.search.specs.plan.Plans.{total_of}
use Rattle.call_search.specs.single.Entries.{backtrack_search_of, step_length_of}
use Rattle.call_search.specs.single.Demand3.{AsDemanded, BothAsDemanded, Doubles, outcome_of}
use Rattle.call_search.specs.plans.Entries.{common_step_of, plan_step_of}
use Rattle.call_search.specs.plans.CommonStep.{AsOrdered}
use Rattle.call_search.specs.plans.PlanStep.{BothAsOrdered}
use Rattle.promises.specs.demand_three.Premises.{Accepted, AcceptedPlan, Side, Asked}

-- ---- what a call owes that answers and leaves l

-- 003 backtrack_search, on one side of one cone
abbrev pub SearchOwes : Cone → Bool → List Float → List Float → List Float → Settings → Lent Found → Type 0
SearchOwes c primal dq q point s l =
    Accepted c → Side (numel_of c) dq q point → Asked s
    → (l.answer.code ≡ 0) × AsDemanded (problem_of c primal dq q s) (outcome_of l.answer l.slice)

-- 000, 001, 002 step_length, the dual side and the primal side of one cone
abbrev pub StepOwes : Cone → List Float → List Float → List Float → List Float → List Float → List Float → Settings → LentTwo Steps → Type 0
StepOwes c dz ds z s dual_point primal_point settings l =
    Accepted c → Side (numel_of c) dz z dual_point → Side (numel_of c) ds s primal_point → Asked settings
    → (l.answer.code ≡ 0) × BothAsDemanded c dz ds z s settings l

-- 02, Order 10, one side of a plan
abbrev pub CommonOwes : List Cone → Bool → List Float → List Float → List Float → Settings → Lent Found → Type 0
CommonOwes cs primal dq q point s l =
    AcceptedPlan cs → Side (total_of cs) dq q point → Asked s
    → (l.answer.code ≡ 0) × AsOrdered cs primal dq q s (outcome_of l.answer l.slice)

-- one step for both sides of a plan
abbrev pub PlanOwes :
    List Cone → List Float → List Float → List Float → List Float → List Float → List Float → Settings → LentTwo Found → Type 0
PlanOwes cs dz ds z s dual_point primal_point settings l =
    AcceptedPlan cs → Side (total_of cs) dz z dual_point → Side (total_of cs) ds s primal_point → Asked settings
    → (l.answer.code ≡ 0) × BothAsOrdered cs dz ds z s settings l

-- ---- the theorem. The settings of every call are doubles; that is a fact of their type, and no premise of the calls

pub record DemandThree : Type 0 where
  pub backtrack_search_lem : (c : Cone) (primal : Bool) (dq q point : List Float) (s : Settings) → Doubles s
      → SearchOwes c primal dq q point s (backtrack_search_of c primal dq q point s)
  pub step_length_lem : (c : Cone) (dz ds z s dual_point primal_point : List Float) (settings : Settings) → Doubles settings
      → StepOwes c dz ds z s dual_point primal_point settings (step_length_of c dz ds z s dual_point primal_point settings)
  pub common_step_lem : (cs : List Cone) (primal : Bool) (dq q point : List Float) (s : Settings) → Doubles s
      → CommonOwes cs primal dq q point s (common_step_of cs primal dq q point s)
  pub plan_step_lem : (cs : List Cone) (dz ds z s dual_point primal_point : List Float) (settings : Settings) → Doubles settings
      → PlanOwes cs dz ds z s dual_point primal_point settings (plan_step_of cs dz ds z s dual_point primal_point settings)
