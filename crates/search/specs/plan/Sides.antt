-- Both sides of a plan with one step: the cones over the dual vectors, then over the primal ones. Definitions only.
use Rattle.std.specs.Prelude.{ℕ, ◌+◌, ◌≡◌, Bool, true, false, cond, List, ◌++◌, length, take, drop, Float}
use Rattle.cone.specs.declared.Cone.{Cone}
use Rattle.cone.specs.declared.Settings.{Settings}
use Rattle.judges.specs.Refusals.{LentTwo}
use Rattle.search.specs.trials.Search.{Problem, Outcome}
use Rattle.search.specs.trials.Costed.{Costed}
use Rattle.search.specs.trials.Asked.{Trials, searched_with}
use Rattle.search.specs.declared.Searched.{Searched}
use Rattle.search.specs.Points.{trial_point}
use Rattle.search.specs.declared.trials.Tested.{Tested}
use Rattle.search.specs.plan.Plans.{total_of, all_pass, tests_of}

-- 01: "at which every cone passes on both sides": on its part of the dual point and on its part of the primal one
unfoldable pub both_pass : List Cone → List Float → List Float → Bool
both_pass cs dual primal = cond (all_pass cs false dual) (all_pass cs true primal) false

-- 01: "At a trial the cones are tested in list order on the dual side, then in list order on the primal side, and it ends at the first
-- test that fails." How many single tests that are
unfoldable pub both_tests : List Cone → List Float → List Float → ℕ
both_tests cs dual primal = tests_of cs false dual + cond (all_pass cs false dual) (tests_of cs true primal) 0

-- both, as the code hands them back
abbrev pub both_tested_of : List Cone → List Float → List Float → Tested
both_tested_of cs dual primal = record { all = both_pass cs dual primal; count = both_tests cs dual primal }

-- what is known of a side at a trial: its slices are as long as the cones together
pub record OnSide (cs : List Cone) (dq q point : List Float) : Type 0 where
  pub total : total_of cs ≡ length q
  pub dq_length : length dq ≡ length q
  pub point-length : length point ≡ length q

-- A search has one point: the dual side's numbers, and the primal side's behind them.
abbrev pub dual_side : List Cone → List Float → List Float
dual_side cs p = take (total_of cs) p

abbrev pub primal_side : List Cone → List Float → List Float
primal_side cs p = drop (total_of cs) p

-- one trial moves both sides. 01: "Single tests are counted"
abbrev pub sides_trials : List Cone → List Float → List Float → List Float → List Float → Trials
sides_trials cs dz ds z s = record {
  test = λ (p : List Float). both_pass cs (dual_side cs p) (primal_side cs p);
  cost = λ (p : List Float). both_tests cs (dual_side cs p) (primal_side cs p);
  point_at = λ (α : Float). trial_point z dz α ++ trial_point s ds α;
  q = z ++ s;
}

abbrev pub sides_of : List Cone → List Float → List Float → List Float → List Float → Settings → Costed
sides_of cs dz ds z s how = searched_with (sides_trials cs dz ds z s) how

-- what the search is about
abbrev pub sides_problem : List Cone → List Float → List Float → List Float → List Float → Settings → Problem
sides_problem cs dz ds z s how = (sides_of cs dz ds z s how).problem

-- what it hands back: its point, side by side
abbrev pub in_sides : List Cone → Outcome → LentTwo Searched
in_sides cs o = record {
  answer = record { step = o.step; count = o.count };
  first = dual_side cs o.point;
  second = primal_side cs o.point;
}
