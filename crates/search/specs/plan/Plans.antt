-- A plan: cones in order over one long vector, each with its own part of it. Definitions only.
use Rattle.std.specs.Prelude.{ℕ, suc, ◌+◌, ◌≤◌, ◌≡◌, Bool, true, false, cond, ◌&&◌, List, [], ◌∷◌, leb, length, take, drop, Float}
use Rattle.cone.specs.declared.Cone.{Cone}
use Rattle.cone.specs.declared.Settings.{Settings}
use Rattle.cone.specs.Codes.{numel_of}
use Rattle.judges.specs.Judges.{cone_ok}
use Rattle.kinds.specs.Passes.{passes_in}
use Rattle.search.specs.trials.Search.{Problem}
use Rattle.search.specs.trials.Costed.{Costed}
use Rattle.search.specs.trials.Asked.{Trials, searched_with}
use Rattle.search.specs.Points.{trial_point}
use Rattle.search.specs.Problems.{Searchable}
use Rattle.search.specs.declared.trials.Tested.{Tested}

-- ---- the plan, judged

-- how many numbers a point of the plan has
unfoldable pub total_of : List Cone → ℕ
total_of [] = 0
total_of (c ∷ cs) = numel_of c + total_of cs

unfoldable pub all_cones_ok : List Cone → Bool
all_cones_ok [] = true
all_cones_ok (c ∷ cs) = cone_ok c && all_cones_ok cs

-- 02, Order 10: "A plan has a list of 1 to 1,024 cones over one long pair of vectors"
abbrev pub most_cones : ℕ
most_cones = 1024

unfoldable pub plan_ok : List Cone → Bool
plan_ok cs = leb 1 (length cs) && leb (length cs) most_cones && all_cones_ok cs

-- ---- the test of a point

-- the test of one cone that a search makes
abbrev pub cone_passes : Cone → Bool → List Float → Bool
cone_passes c primal p = passes_in c.kind c.dim1 c.exps primal p

-- 02, Order 10: "at which every cone's point passes". The first numel_of places are the first cone's
unfoldable pub all_pass : List Cone → Bool → List Float → Bool
all_pass [] primal p = true
all_pass (c ∷ cs) primal p = cond (cone_passes c primal (take (numel_of c) p)) (all_pass cs primal (drop (numel_of c) p)) false

-- 02, Order 10: "Cones are tested in list order, and a trial ends at its first failing cone." How many cones are tested
unfoldable pub tests_of : List Cone → Bool → List Float → ℕ
tests_of [] primal p = 0
tests_of (c ∷ cs) primal p = suc (cond (cone_passes c primal (take (numel_of c) p)) (tests_of cs primal (drop (numel_of c) p)) 0)

-- both, as the code hands them back
abbrev pub tested_of : List Cone → Bool → List Float → Tested
tested_of cs primal p = record { all = all_pass cs primal p; count = tests_of cs primal p }

-- ---- the search

-- its trials: 003's, with another test. 02, Order 10: "Tests counted are single cone tests"
abbrev pub plan_trials : List Cone → Bool → List Float → List Float → Trials
plan_trials cs primal dq q =
    record { test = all_pass cs primal; cost = tests_of cs primal; point_at = λ (α : Float). trial_point q dq α; q = q }

abbrev pub plan_of : List Cone → Bool → List Float → List Float → Settings → Costed
plan_of cs primal dq q how = searched_with (plan_trials cs primal dq q) how

-- what it is about
abbrev pub plan_problem : List Cone → Bool → List Float → List Float → Settings → Problem
plan_problem cs primal dq q how = (plan_of cs primal dq q how).problem

-- how many cones a plan has
abbrev pub Listed : List Cone → Type 0
Listed cs = (1 ≤ length cs) × (length cs ≤ most_cones)

-- what is known when it begins: the numbers 1 to 4 did not refuse
pub record Plannable (cs : List Cone) (dq q : List Float) (how : Settings) (point : List Float) : Type 0 where
  pub some-cones : 1 ≤ length cs
  pub few_cones : length cs ≤ most_cones
  pub lengths_add_up : total_of cs ≡ length q
  pub searchable : Searchable dq q how point
