-- The search, for any test of a point. Definitions only.
use Rattle.std.specs.Prelude.{ℕ, zero, suc, Bool, true, false, List, Float}
use Rattle.double.specs.Operators.{◌⊗◌, ◌≺◌}
use Rattle.double.specs.Numbers.{#0}
use Rattle.cone.specs.declared.Settings.{Settings}
use Rattle.search.specs.trials.Trials.{bound}

-- What a search is about: the test of a point, the computed point of a trial, the point of step zero, the settings. No cone: whoever tests
-- points otherwise has the same laws.
pub record Problem : Type 0 where
  pub test : List Float → Bool
  pub point_at : Float → List Float
  pub q : List Float
  pub how : Settings

-- what it hands back: the step, how many points were tested, the point
pub record Outcome : Type 0 where
  pub step : Float
  pub count : ℕ
  pub point : List Float

abbrev pub outcome : Float → ℕ → List Float → Outcome
outcome α n p = record { step = α; count = n; point = p }

-- whether the computed point of the trial α passes
abbrev pub passes_at : Problem → Float → Bool
passes_at P α = P.test (P.point_at α)

-- 01: "Cutting a trial equal to the smallest step; only a smaller one is cut". Whether the trial after α is cut
abbrev pub cut_after : Problem → Float → Bool
cut_after P α = α ⊗ P.how.step ≺ P.how.smallest

-- the trial α passed, after n tests that did not
abbrev pub hit : Problem → Float → ℕ → Outcome
hit P α n = outcome α (suc n) (P.point_at α)

-- the last of n + 1 tests failed. 01: "Handing back the last failed trial's point with step zero" is wrong: the point is q
abbrev pub miss : Problem → ℕ → Outcome
miss P n = outcome #0 (suc n) P.q

-- From the trial α with n tests before it; the Bools are what `passesAt` and `cutAfter` say of it. At most f trials more.
-- They are arguments to match on, so that no more trials are computed than the search makes.
unfoldable pub scan : Problem → ℕ → Bool → Bool → Float → ℕ → Outcome
scan P zero true c α n = hit P α n
scan P zero false c α n = miss P n
scan P (suc f) true c α n = hit P α n
scan P (suc f) false true α n = miss P n
scan P (suc f) false false α n = let β = α ⊗ P.how.step in scan P f (passes_at P β) (cut_after P β) β (suc n)

-- 003 backtrack_search. The start is always tried; `bound` trials are all that there can be.
unfoldable pub search_of : Problem → Outcome
unfolding scan
search_of P = let α = P.how.start in scan P (bound P.how) (passes_at P α) (cut_after P α) α 0
