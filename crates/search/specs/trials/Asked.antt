-- What is asked of a search's trials, whatever they test and on however many points. Definitions only.
use Rattle.std.specs.Prelude.{ℕ, ◌≤◌, Bool, List, Float}
use Rattle.cone.specs.declared.Settings.{Settings}
use Rattle.search.specs.declared.trials.Tested.{Tested}
use Rattle.search.specs.trials.Costed.{Costed}

-- a search before its settings are known: the test of a point, its cost in single tests, the point of a trial and that of step zero
pub record Trials : Type 0 where
  pub test : List Float → Bool
  pub cost : List Float → ℕ
  pub point_at : Float → List Float
  pub q : List Float

abbrev pub searched_with : Trials → Settings → Costed
searched_with t how = record { problem = record { test = t.test; point_at = t.point_at; q = t.q; how = how }; cost = t.cost }

-- what the trial α answers
abbrev pub tested_at : Trials → Float → Tested
tested_at t α = record { all = t.test (t.point_at α); count = t.cost (t.point_at α) }

-- the most single tests of a trial: 1,024 cones on both sides
abbrev pub most_tests : ℕ
most_tests = 2048

-- Each trial makes a test at least, so that the search ends, and few enough that their number fits.
pub record Costs (t : Trials) : Type 0 where
  pub some : (p : List Float) → 1 ≤ t.cost p
  pub few : (p : List Float) → t.cost p ≤ most_tests
