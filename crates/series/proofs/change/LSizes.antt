-- L is at most its number of turns and one more. Assumes nothing.
use Prim.Native.Nat.{ℕ, ◌+◌, ◌-◌, ◌*◌, ◌/◌, ◌^◌, ◌≤◌, ◌<◌}
use native.Mathlib.Nat.{le_trans, mul-le-mul_left, mul-le-mul_right, mul-pos, div-lt_iff_lt-mul}
use native.Mathlib.Omega.{arith}
use lib.Dec.{leb→le}
use lib.Pow.{pow_pos}
use lib.Ieee.Digits.{size-le}
use Rattle.series.specs.Series.{Written, sum, odd_product, term, s_num, s_den, lAt, lOf, rise, fall}
use Rattle.series.proofs.Order.{S-at_most_third}
use Rattle.series.proofs.Written.{written}
use Rattle.series.proofs.SameFraction.{positive_below}

-- S(1/3) is at most 1
pub third-one : s_num 1 3 ≤ s_den 3
unfolding s_num s_den sum term odd_product
third-one = leb→le _ _ tt

turns : (r f t T N Q : ℕ) → t ≤ T → N * T ≤ t * Q → r * (t * Q) + N * T + f * (t * Q) ≤ (r + f + 1) * (T * Q)
turns r f t T N Q h k = omega (arith, mul-le-mul_left (r * Q) h, mul-le-mul_left (f * Q) h, mul-le-mul_left Q h)

pub L-by_turns : {a b r f c d : ℕ} → Written a b r f c d → (lAt r f c d).plus + (lAt r f c d).less ≤ (r + f + 1) * (lAt r f c d).over
unfolding lAt
L-by_turns {r = r} {f = f} {c = c} {d = d} w =
    turns r f (s_num 1 3) (s_den 3) (s_num (c - d) (c + d)) (s_den (c + d)) third-one
    (S-at_most_third c d (positive_below w) w.from_one (below c d w.below_two))
  where
    below : (c d : ℕ) → c < 2 * d → c ≤ 2 * d
    below c d h = omega arith

rise-most : (a b n : ℕ) → 0 < b → a < 2 ^ n * b → rise a b ≤ n
unfolding rise
rise-most a b n pb h = less (size-le (a / b) n ((div-lt_iff_lt-mul pb).1 h))
  where
    less : {x n : ℕ} → x ≤ n → x - 1 ≤ n
    less l = omega arith

pub fall-most : (a b n : ℕ) → 0 < a → b ≤ 2 ^ n * a → fall a b ≤ n
unfolding fall
fall-most a b n pa h = size-le ((b - 1) / a) n ((div-lt_iff_lt-mul pa).1 (under b (2 ^ n * a) (mul-pos (pow_pos n) pa) h))
  where
    under : (b x : ℕ) → 0 < x → b ≤ x → b - 1 < x
    under b x p h = omega arith

-- |L(a/b)| is at most 2n + 1 for a/b from 2^-n to 2^n
pub L-most :
    (a b n : ℕ) → 0 < a → 0 < b → a < 2 ^ n * b → b ≤ 2 ^ n * a → (lOf a b).plus + (lOf a b).less ≤ (n + n + 1) * (lOf a b).over
unfolding lOf
L-most a b n pa pb hi lo =
    le_trans (L-by_turns (written a b pa pb)) (mul-le-mul_right _ (sum-most (rise-most a b n pb hi) (fall-most a b n pa lo)))
  where
    sum-most : {x y : ℕ} → x ≤ n → y ≤ n → x + y + 1 ≤ n + n + 1
    sum-most h k = omega arith
