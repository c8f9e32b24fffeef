-- `reciprocal` meets its contract: an estimate's cube times the number is below three times the estimate. Assumes nothing.
use mathlib.Core.Path.{sym, ap, subst}
use Prim.Native.Nat.{ℕ, ◌*◌, ◌^◌, ◌≤◌, ◌<◌}
use native.Mathlib.Nat.{mul-le-mul, le_of_lt}
use native.Mathlib.Omega.{arith}
use Rattle.root.specs.reciprocal_table.Estimates.{estimate_of, units}
use Rattle.root.proofs.reciprocal_table.EstimateRule.{estimate_rule}
use Rattle.root.specs.table_root.Steps.{refined, reciprocal_of}
use Rattle.root.proofs.table_root.Reciprocals.{raw_room}
use Rattle.root.proofs.table_root.reciprocal.Goals as goal
use Rattle.root.proofs.table_root.reciprocal.Goals.{After-estimate-e}

-- past the call: the estimate
module _ (c : After-estimate-e) where
  abbrev m : ℕ
  m = c.args.m

  abbrev e : ℕ
  e = c.estimate-e.result

  short : e < 2 ^ 12
  short = subst (λ (k : ℕ). k < 2 ^ 12) (sym c.estimate-e.ensures) (estimate_rule.short m c.requires.1)

  cube : e * e * e ≤ 2 ^ 12 * 2 ^ 12 * 2 ^ 12
  cube = mul-le-mul (mul-le-mul (le_of_lt short) (le_of_lt short)) (le_of_lt short)

  times : units m * (e * e * e) ≤ 3 * 2 ^ 48 * e
  times =
      let lo = c.requires.0 in
      let hi = c.requires.1 in
      subst (λ (k : ℕ). units m * (k * k * k) ≤ 3 * 2 ^ 48 * k) (sym c.estimate-e.ensures)
      (raw_room m (estimate_of m) lo hi (estimate_rule.short m hi) (estimate_rule.close m lo hi))

pub overflow_mul-result : goal.overflow_mul-result
overflow_mul-result c = omega (arith, short c)

pub overflow_mul-result-2 : goal.overflow_mul-result-2
overflow_mul-result-2 c = omega (arith, mul-le-mul (le_of_lt (short c)) (le_of_lt (short c)))

pub overflow_mul-result-3 : goal.overflow_mul-result-3
overflow_mul-result-3 c = omega (arith, cube c)

pub overflow_mul-result-4 : goal.overflow_mul-result-4
overflow_mul-result-4 c = omega (arith, times c, short c)

pub overflow_sub-result : goal.overflow_sub-result
overflow_sub-result c = times c

pub returns : goal.returns
unfolding refined reciprocal_of
returns c = ap (refined (units (m c))) c.estimate-e.ensures
