-- Order 10 of the entry itself: what a call that is not refused hands back, and what it is for a plan of one cone. The statements only;
-- proofs/plans/CommonStep and proofs/plans/OneCone show them.
use Rattle.std.specs.Prelude.{◌*◌, ◌≤◌, ◌≡◌, Bool, true, not, List, [], ◌∷◌, Float, length}
use Rattle.std.specs.Float.Ieee.{is_nan}
use Rattle.cone.specs.declared.Cone.{Cone}
use Rattle.cone.specs.declared.Settings.{Settings}
use Rattle.search.specs.trials.Trials.{bound}
use Rattle.search.specs.trials.Search.{Outcome}
use Rattle.search.specs.trials.LargestPassing.{LargestPassing}
use Rattle.search.specs.Points.{all_numbers}
use Rattle.call_search.specs.single.Entries.{backtrack_search_of}
use Rattle.call_search.specs.single.Demand3.{Doubles, outcome_of}
use Rattle.search.specs.plan.Plans.{plan_of}
use Rattle.call_search.specs.plans.Entries.{common_step_of}

pub record AsOrdered (cs : List Cone) (primal : Bool) (dq q : List Float) (s : Settings) (o : Outcome) : Type 0 where
  -- the largest trial at which every cone's point passes, zero exactly if there is none, the point that was tested, the single tests
  -- counted
  pub largest_passing : LargestPassing (plan_of cs primal dq q s) o
  -- "Their number is at most the number of cones times the bound for one search."
  pub tests_at_most : o.count ≤ length cs * bound s
  -- none of its numbers is a NaN, so that its bits are determined
  pub step_number : not (is_nan o.step) ≡ true
  pub point-numbers : all_numbers o.point ≡ true

abbrev pub CommonMeets : Type 0
CommonMeets =
    (cs : List Cone) (primal : Bool) (dq q point : List Float) (s : Settings) → Doubles s
    → let l = common_step_of cs primal dq q point s in
    l.answer.code ≡ 0 → AsOrdered cs primal dq q s (outcome_of l.answer l.slice)

-- with one cone in the list: answer, point and count of its own search, and its refusals
abbrev pub OneConeAlone : Type 0
OneConeAlone =
    (c : Cone) (primal : Bool) (dq q point : List Float) (s : Settings)
    → common_step_of (c ∷ []) primal dq q point s ≡ backtrack_search_of c primal dq q point s
