-- A search whose test of a point is made of single tests, and how many of those it makes. For any test and any cost of it. Definitions
-- only.
use Rattle.std.specs.Prelude.{ℕ, zero, suc, ◌+◌, List, Float}
use Rattle.search.specs.trials.Trials.{trial}
use Rattle.search.specs.trials.Search.{Problem, Outcome, outcome, search_of}

-- What a search is about, and how many single tests the test of a point takes.
pub record Costed : Type 0 where
  pub problem : Problem
  pub cost : List Float → ℕ

-- the single tests of the trial α
abbrev pub cost_at : Costed → Float → ℕ
cost_at C α = C.cost (C.problem.point_at α)

-- the single tests of the first n trials
unfoldable pub spent : Costed → ℕ → ℕ
spent C zero = 0
spent C (suc n) = spent C n + cost_at C (trial C.problem.how n)

-- an outcome whose count is of trials, told with the single tests that they took
abbrev pub with_costs : Costed → Outcome → Outcome
with_costs C o = outcome o.step (spent C o.count) o.point

-- 02, Order 10: "the largest trial, in the same sequence as for one cone". The search is the one that stands; its count is of single tests
unfoldable pub costed_of : Costed → Outcome
costed_of C = with_costs C (search_of C.problem)

-- where every test is a single one
abbrev pub single : Problem → Costed
single P = record { problem = P; cost = λ (p : List Float). 1 }
