-- The square root of a double, step by step. Definitions only. That it is IEEE 754's root is stated in specs/Nearest.
use Rattle.std.specs.Prelude.{cond, ℕ, zero, suc, ◌+◌, ◌-◌, ◌*◌, ◌/◌, ◌%◌, ◌^◌, leb, ltb, eqb, Float}
use Rattle.std.specs.Float.{nan, binary64}
use Rattle.std.specs.Float.Ieee.{is_nan, to_bits, of_bits}
use Rattle.double.specs.Fields.{sign_of, field_of, digits_of, normal_of}
use Rattle.double.specs.declared.Normal.{Normal}

-- the largest whole number whose square is at most n, for an n of k base-4 digits: one binary digit of the root for each of them
unfoldable pub whole_root : ℕ → ℕ → ℕ
whole_root zero n = 0
whole_root (suc k) n = let r = 2 * whole_root k (n / 4) in cond (leb ((r + 1) * (r + 1)) n) (r + 1) r

-- q, or the next number up where the rest n - q² is above q. The middle of the two has the square q² + q + 1/4, which no whole number is:
-- there is no tie.
unfoldable pub round_root : ℕ → ℕ → ℕ
round_root n q = cond (ltb q (n - q * q)) (q + 1) q

-- the whole number nearest to the root of an n of 53 base-4 digits
unfoldable pub near_root : ℕ → ℕ
unfolding whole_root round_root
near_root n = round_root n (whole_root 53 n)

-- The root of the positive number m * 2^(k - 1126). With an even exponent its half is the root's; an odd one is made even by doubling m
-- first. The 52 binary digits set behind m give the root 53 digits. In units of 2^-1074 it is then that root times 2^(k/2 + 485): 485 is
-- 1074 less half of 1126 + 52.
unfoldable pub root_of : Normal → Float
unfolding near_root of_bits
root_of n = of_bits binary64 ((n.k / 2 + 485) * 2 ^ 52 + near_root (n.m * 2 ^ (n.k % 2) * 2 ^ 52))

-- a double x without sign, by its exponent field f, 0, 1 to 2046, or 2047, and its digits t. Zero and infinity are their own roots.
unfoldable pub sqrt_fields : Float → ℕ → ℕ → Float
unfolding root_of normal_of
sqrt_fields x f t = cond (eqb f 0) (cond (eqb t 0) x (root_of (normal_of 0 t))) (cond (leb f 2046) (root_of (normal_of f t)) x)

-- a double x of the pattern b, which is not NaN. 2^63 is the pattern of -0.
unfoldable pub sqrt_bits : Float → ℕ → Float
unfolding sqrt_fields
sqrt_bits x b = cond (sign_of b) (cond (eqb b (2 ^ 63)) x nan) (sqrt_fields x (field_of b) (digits_of b))

-- 01: "-0 gives -0, +infinity itself, NaN or a negative number NaN"
unfoldable pub sqrt_of : Float → Float
unfolding sqrt_bits to_bits is_nan
sqrt_of x = cond (is_nan x) nan (sqrt_bits x (to_bits binary64 x))
