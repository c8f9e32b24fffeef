-- A trial of a plan makes a test at least, and one of each cone on each side at most. Assumes nothing.
use mathlib.Core.List.{List}
use mathlib.Core.Bool.{Bool}
use Prim.Native.Nat.{ℕ, ◌*◌, ◌≤◌}
use native.Mathlib.Omega.{arith}
use lib.ListN.{length}
use lib.Ieee.{Float}
use Rattle.cone.specs.declared.Cone.{Cone}
use Rattle.search.specs.trials.Asked.{Costs}
use Rattle.search.specs.plan.Plans.{Listed, plan_trials}
use Rattle.search.specs.plan.Sides.{dual_side, primal_side, sides_trials}
use Rattle.search.proofs.plan.Plans.{tests_most, tests_some}
use Rattle.search.proofs.plan.Sides.{both_most, both_some}

pub plan_costs : (cs : List Cone) (primal : Bool) (dq q : List Float) → Listed cs → Costs (plan_trials cs primal dq q)
plan_costs cs primal dq q h = record {
  some = λ p. tests_some cs primal p h.0;
  few = λ p. few _ (length cs) (tests_most cs primal p) h.1;
}
  where
    few : (k n : ℕ) → k ≤ n → n ≤ 1024 → k ≤ 2048
    few k n l m = omega arith

pub sides_costs : (cs : List Cone) (dz ds z s : List Float) → Listed cs → Costs (sides_trials cs dz ds z s)
sides_costs cs dz ds z s h = record {
  some = λ p. both_some cs _ _ h.0;
  few = λ p. few _ (length cs) (both_most cs (dual_side cs p) (primal_side cs p)) h.1;
}
  where
    few : (k n : ℕ) → k ≤ 2 * n → n ≤ 1024 → k ≤ 2048
    few k n l m = omega arith
