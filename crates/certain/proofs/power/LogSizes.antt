-- How large L is: at most 0.7 for each power of two between its fraction and 1, and 0.7 more. Assumes nothing.
use mathlib.Core.Path.{sym, subst}
use Prim.Native.Nat.{ℕ, ◌+◌, ◌-◌, ◌*◌, ◌/◌, ◌^◌, ◌≤◌, ◌<◌}
use native.Mathlib.Nat.{mul-le-mul_left, mul-le-mul_right, div-lt_iff_lt-mul, one-mul}
use native.Mathlib.Decide.{dec_lt}
use native.Mathlib.Omega.{arith}
use lib.Dec.{lit≤}
use lib.Ieee.Digits.{size-le}
use Rattle.series.specs.Series.{Written, sum, odd_product, term, s_num, s_den, lAt, lOf, rise, fall}
use Rattle.series.proofs.Order.{S-at_most_third}
use Rattle.series.proofs.Written.{written}
use Rattle.series.proofs.SameFraction.{positive_below}
use Rattle.series.proofs.change.LSizes.{fall-most}

-- S(1/3) is at most 0.7
pub third-most : 10 * s_num 1 3 ≤ 7 * s_den 3
unfolding s_num s_den sum term odd_product
third-most = lit≤ tt

turns_shape :
    (r f t T N Q n : ℕ) → 10 * t ≤ 7 * T → N * T ≤ t * Q → r + f ≤ n
    → 10 * (r * (t * Q) + N * T + f * (t * Q)) ≤ 7 * (n + 1) * (T * Q)
turns_shape r f t T N Q n h k l = omega (arith, mul-le-mul_right (10 * (t * Q)) l, mul-le-mul_left ((n + 1) * Q) h)

by-turns :
    {a b r f c d : ℕ} (n : ℕ) → Written a b r f c d → r + f ≤ n
    → 10 * ((lAt r f c d).plus + (lAt r f c d).less) ≤ 7 * (n + 1) * (lAt r f c d).over
unfolding lAt
by-turns {r = r} {f = f} {c = c} {d = d} n w l =
    turns_shape r f (s_num 1 3) (s_den 3) (s_num (c - d) (c + d)) (s_den (c + d)) n third-most
    (S-at_most_third c d (positive_below w) w.from_one (below c d w.below_two)) l
  where
    below : (c d : ℕ) → c < 2 * d → c ≤ 2 * d
    below c d h = omega arith

rise-most : (a b n : ℕ) → 0 < b → a < 2 ^ n * b → rise a b ≤ n
unfolding rise
rise-most a b n pb h = less (size-le (a / b) n ((div-lt_iff_lt-mul pb).1 h))
  where
    less : {x n : ℕ} → x ≤ n → x - 1 ≤ n
    less l = omega arith

-- one of the two is 0
turns-most : (a b n : ℕ) → 0 < a → 0 < b → a < 2 ^ n * b → b ≤ 2 ^ n * a → rise a b + fall a b ≤ n
turns-most a b n pa pb hi lo = go (dec_lt a b)
  where
    go : Dec (a < b) → rise a b + fall a b ≤ n
    go (yes l) = both (rise a b) (fall a b) (rise-most a b 0 pb (subst (λ (x : ℕ). a < x) (sym (one-mul b)) l)) (fall-most a b n pa lo)
      where
        both : (r f : ℕ) → r ≤ 0 → f ≤ n → r + f ≤ n
        both r f h k = omega arith
    go (no l) =
        both (rise a b) (fall a b) (rise-most a b n pb hi) (fall-most a b 0 pa (subst (λ (x : ℕ). b ≤ x) (sym (one-mul a)) (back l)))
      where
        back : {x y : ℕ} → (x < y → ⊥) → y ≤ x
        back h = omega arith

        both : (r f : ℕ) → r ≤ n → f ≤ 0 → r + f ≤ n
        both r f h k = omega arith

-- |L(a/b)| is at most 0.7·(n + 1) for a/b from 2^-n to 2^n, and so at most m
pub L-within :
    (a b n m : ℕ) → 0 < a → 0 < b → a < 2 ^ n * b → b ≤ 2 ^ n * a → 7 * (n + 1) ≤ 10 * m
    → (lOf a b).plus + (lOf a b).less ≤ m * (lOf a b).over
unfolding lOf
L-within a b n m pa pb hi lo few =
    last _ _ (7 * (n + 1)) (by-turns n (written a b pa pb) (turns-most a b n pa pb hi lo)) (mul-le-mul_right _ few)
  where
    last : (x y z : ℕ) → 10 * x ≤ z * y → z * y ≤ 10 * m * y → x ≤ m * y
    last x y z h k = omega arith
