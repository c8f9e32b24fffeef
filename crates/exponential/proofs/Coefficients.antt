-- The coefficients of the sum, and the largest sum: each rule is one computed test. Assumes nothing.
use Rattle.std.proofs.Common.{◌≡◌, ℕ, zero, suc, ◌+◌, ◌-◌, ◌*◌, ◌^◌, ◌<◌, ◌≤◌, Bool, T, eqb, leb, refl, mul-zero, arith, eqb→eq, ltb→lt, leb→le}
use Rattle.arith.proofs.Tables.{every, at_index}
use Rattle.exponential.specs.Sum.{factorial, share}
use Rattle.exponential.specs.Steps.{third_in64, coefficient, horner}

-- a coefficient is 2^62/i! rounded down: over 39!, at most 2^62·39!/i! and less than one below it
not-above : ℕ → Bool
unfolding share coefficient
not-above i = leb (coefficient i * factorial 39) (2 ^ 62 * share i)

not_above_ok : T (every not-above 39)
unfolding every not-above
not_above_ok = tt

pub coefficient_not_above : (i : ℕ) → i < 39 → coefficient i * factorial 39 ≤ 2 ^ 62 * share i
unfolding not-above
coefficient_not_above i h = leb→le _ _ (at_index not-above 39 not_above_ok i h)

not-below : ℕ → Bool
unfolding share coefficient
not-below i = leb (2 ^ 62 * share i) ((coefficient i + 1) * factorial 39)

not_below_ok : T (every not-below 39)
unfolding every not-below
not_below_ok = tt

pub coefficient_not_below : (i : ℕ) → i < 39 → 2 ^ 62 * share i ≤ (coefficient i + 1) * factorial 39
unfolding not-below
coefficient_not_below i h = leb→le _ _ (at_index not-below 39 not_below_ok i h)

-- from i = 21 on they are 0, so that the sum may begin there
none : ℕ → Bool
unfolding coefficient
none d = eqb (coefficient (38 - d)) 0

no_coefficient : (d : ℕ) → d < 18 → coefficient (38 - d) ≡ 0
unfolding none every
no_coefficient d h = eqb→eq _ _ (at_index none 18 tt d h)

pub horner-starts : (r d : ℕ) → d < 19 → horner r d ≡ 0
unfolding horner
horner-starts r zero h = refl
horner-starts r (suc d) h = rw (no_coefficient d (omega arith), horner-starts r d (omega arith), mul-zero)

-- The sum at the largest rest stays just below 2. The code's functions see a rest only by its place, which tells it up to 2048 units.
small : ℕ → Bool
unfolding horner
small d = leb (horner (third_in64 + 2048) d) (2 ^ 63 + 1024)

small_ok : T (every small 40)
unfolding every small
small_ok = tt

pub largest-sum : (d : ℕ) → d < 40 → horner (third_in64 + 2048) d ≤ 2 ^ 63 + 1024
unfolding small
largest-sum d h = leb→le _ _ (at_index small 40 small_ok d h)

pub sum_below_two : horner third_in64 39 < 2 ^ 63
unfolding horner coefficient factorial
sum_below_two = ltb→lt _ _ tt
