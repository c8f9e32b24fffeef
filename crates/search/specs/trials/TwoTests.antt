-- Two tests that a search can be made with, by themselves and together. Definitions, and the statement of what these searches give;
-- proofs/trials/TwoTests computes them.
use Rattle.std.specs.Prelude.{◌≡◌, Bool, ◌&&◌, List, [], ◌∷◌, Float}
use Rattle.double.specs.Operators.{◌⊗◌, ◌≺◌, at}
use Rattle.double.specs.Numbers.{#0, #½, #1}
use Rattle.cone.specs.declared.Settings.{Settings}
use Rattle.search.specs.trials.Search.{Outcome, outcome, search_of}

-- three trials: 1, 1/2, 1/4
abbrev pub three_trials : Settings
three_trials = record { start = #1; step = #½; smallest = #½ ⊗ #½ }

-- the search with this test, where the point of a trial is the trial itself
abbrev pub search_by : (List Float → Bool) → Outcome
search_by test = search_of (record { test = test; point_at = λ (α : Float). α ∷ []; q = []; how = three_trials })

-- 02, Order 10: "the largest trial, in the same sequence as for one cone, at which every cone's point passes", of two tests
abbrev pub common_step : (List Float → Bool) → (List Float → Bool) → Float
common_step s t = (search_by (λ p. s p && t p)).step

-- one test passes at the start alone, the other from the second trial on
abbrev pub early : List Float → Bool
early p = #½ ≺ at p 0

abbrev pub late : List Float → Bool
late p = at p 0 ≺ #1

-- 01: "Taking the smallest of the cones' own steps for their common one: a cone may fail at a trial below one that it passes." The smaller
-- of the two steps is 1/2, where the first test fails; no trial passes both.
pub record NotTheSmallest : Type 0 where
  pub early_alone : search_by early ≡ outcome #1 1 (#1 ∷ [])
  pub late_alone : search_by late ≡ outcome #½ 2 (#½ ∷ [])
  pub together : search_by (λ p. early p && late p) ≡ outcome #0 3 []
  pub common : common_step early late ≡ #0
