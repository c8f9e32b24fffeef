-- `four` meets its contract: the calls are the definition's own steps, and no sum leaves 2^63. Assumes nothing.
use Rattle.std.proofs.Common.{◌≡◌, ℕ, ◌+◌, ◌*◌, ◌/◌, ◌^◌, ◌<◌, ◌≤◌, sym, subst, arith}
use Rattle.exponential.specs.Steps.{coefficient}
use Rattle.exponential.specs.Estimates.{four_of}
use Rattle.exponential.proofs.NearSums.{term_small, coefficient_small}
use Rattle.exponential.proofs.sum.four.Goals as goal
use Rattle.exponential.proofs.sum.four.Goals.{After-coefficient-4, After-high, After-high-2, After-high-3, Start}

known : (i a : ℕ) → a ≡ coefficient i → a ≤ 2 ^ 62
known i a e = subst (λ (n : ℕ). n ≤ 2 ^ 62) (sym e) (coefficient_small i)

small : (x a h y : ℕ) → h ≡ x * y / 2 ^ 64 → x < 2 ^ 58 → a ≤ 2 ^ 62 → y ≤ 2 ^ 62 + 2 ^ 57 → a + h ≤ 2 ^ 62 + 2 ^ 57
small x a h y e l k m = subst (λ (n : ℕ). a + n ≤ 2 ^ 62 + 2 ^ 57) (sym e) (term_small x a y l k (omega arith))

-- past the four coefficients, and where they began
abbrev start : After-coefficient-4 → Start
start c = c.before.before.before.before

-- the sums, from the inner one on
third : (c : After-high) → c.coefficient-3.result + c.high.result ≤ 2 ^ 62 + 2 ^ 57
third c =
    small _ _ _ _ c.high.ensures (start c.before).requires.0 (known _ _ c.coefficient-3.ensures)
    (omega (arith, known _ _ c.coefficient-4.ensures))

second : (c : After-high-2) → c.coefficient-2.result + c.high-2.result ≤ 2 ^ 62 + 2 ^ 57
second c =
    small _ _ _ _ c.high-2.ensures (start c.before.before).requires.0
    (known _ _ c.coefficient-2.ensures) (third c.before)

first :
    (c : After-high-3) → c.coefficient.result + c.high-3.result ≤ 2 ^ 62 + 2 ^ 57
first c =
    small _ _ _ _ c.high-3.ensures (start c.before.before.before).requires.0
    (known _ _ c.coefficient.ensures) (second c.before)

pub returns : goal.returns
unfolding four_of
returns c =
    rw (
      c.high-3.ensures,
      c.high-2.ensures,
      c.high.ensures,
      c.coefficient-4.ensures,
      c.coefficient-3.ensures,
      c.coefficient-2.ensures,
      c.coefficient.ensures,
    )

pub overflow_add-coefficient : goal.overflow_add-coefficient
overflow_add-coefficient c = omega (arith, third c)

pub overflow_add-coefficient-2 : goal.overflow_add-coefficient-2
overflow_add-coefficient-2 c = omega (arith, second c)

pub overflow_add-result : goal.overflow_add-result
overflow_add-result c = omega (arith, first c)
