-- What the code estimates the sum by. That the estimate is near the sum is proofs/NearSums; no public contract cites this file. Definitions
-- only.
use Rattle.std.specs.Prelude.{ℕ, ◌+◌, ◌*◌, ◌/◌, ◌%◌, ◌^◌}
use Rattle.exponential.specs.Steps.{coefficient, horner}

-- the sum's four terms from i on, over r^i, by Horner's rule, at x units of 2^-64
unfoldable pub four_of : ℕ → ℕ → ℕ
unfolding coefficient
four_of x i =
    coefficient i + x * (coefficient (i + 1) + x * (coefficient (i + 2) + x * coefficient (i + 3) / 2 ^ 64) / 2 ^ 64) / 2 ^ 64

-- its first eight terms, which are enough for an x below 2^-6: four, and the fourth power of x times the next four
unfoldable pub eight_of : ℕ → ℕ
unfolding four_of
eight_of x = let square = x * x / 2 ^ 64 in four_of x 0 + square * square / 2 ^ 64 * four_of x 4 / 2 ^ 64

-- the sum at c/64 in units of 2^-63
unfoldable pub power_of : ℕ → ℕ
unfolding horner
power_of c = 2 * horner (c * 2 ^ 58) 39

-- The sum at r, where r is c/64 and x: that at c/64 times that at x.
unfoldable pub near_sum_of : ℕ → ℕ
unfolding power_of eight_of
near_sum_of r = power_of (r / 2 ^ 58) * (2 * eight_of (r % 2 ^ 58)) / 2 ^ 64
