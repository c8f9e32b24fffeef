-- What a search over a cone is about. Definitions only.
use Rattle.std.specs.Prelude.{ℕ, ◌≡◌, Bool, true, List, length, Float}
use Rattle.cone.specs.declared.Cone.{Cone}
use Rattle.cone.specs.declared.Settings.{Settings}
use Rattle.judges.specs.Judges.{settings_finite, settings_ok}
use Rattle.search.specs.trials.Search.{Problem}
use Rattle.search.specs.trials.Asked.{Trials}
use Rattle.kinds.specs.Passes.{passes_in}
use Rattle.search.specs.Points.{trial_point}

-- 003 backtrack_search: stay in the cone, or in its dual, on the way from q along dq. The cone is given by its parts
abbrev pub problem_in : ℕ → ℕ → List Float → Bool → List Float → List Float → Settings → Problem
problem_in kind dim1 exps primal dq q how =
    record { test = passes_in kind dim1 exps primal; point_at = λ (α : Float). trial_point q dq α; q = q; how = how }

abbrev pub problem_of : Cone → Bool → List Float → List Float → Settings → Problem
problem_of c primal dq q how = problem_in c.kind c.dim1 c.exps primal dq q how

-- its trials, whatever the settings: each is one test
abbrev pub cone_trials : Cone → Bool → List Float → List Float → Trials
cone_trials c primal dq q = record {
  test = passes_in c.kind c.dim1 c.exps primal;
  cost = λ (p : List Float). 1;
  point_at = λ (α : Float). trial_point q dq α;
  q = q;
}

-- what is known when a search begins: the numbers 2, 3 and 4 did not refuse
pub record Searchable (dq q : List Float) (how : Settings) (point : List Float) : Type 0 where
  pub dq_length : length dq ≡ length q
  pub point-length : length point ≡ length q
  pub finite_settings : settings_finite how ≡ true
  pub good-settings : settings_ok how ≡ true
