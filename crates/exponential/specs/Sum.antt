-- The sum that document 01 measures the exponential by, on exact fractions. Definitions only.
use Rattle.std.specs.Prelude.{ℕ, zero, suc, ◌+◌, ◌-◌, ◌*◌, ◌/◌, ◌^◌}
use Rattle.series.specs.Series.{sum, odd_product, term, s_num, s_den}

-- 01: "j the floor of x/S(1/3)". S(1/3), which is log 2 but for less than 2^-133, is the fraction third_num / third_den
unfoldable pub third_num : ℕ
unfolding s_num sum term odd_product
third_num = s_num 1 3

unfoldable pub third_den : ℕ
unfolding s_den odd_product
third_den = s_den 3

unfoldable pub factorial : ℕ → ℕ
factorial zero = 1
factorial (suc n) = factorial n * suc n

-- 39!/i!, a whole number for every i up to 39: 39! is a common denominator of the forty terms
unfoldable pub share : ℕ → ℕ
unfolding factorial
share i = factorial 39 / factorial i

-- 01: "the sum of r^i/i!, i = 0..39", at r = p/q: here the terms with i below n, over the denominator 39!·q^39
unfoldable pub sum_to : ℕ → ℕ → ℕ → ℕ
unfolding share
sum_to p q zero = 0
sum_to p q (suc n) = sum_to p q n + share n * p ^ n * q ^ (39 - n)

-- the sum of all forty terms is sum_num p q / sum_den q
abbrev pub sum_num : ℕ → ℕ → ℕ
sum_num p q = sum_to p q 40

abbrev pub sum_den : ℕ → ℕ
sum_den q = factorial 39 * q ^ 39
