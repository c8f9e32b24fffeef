-- The error sums of the two residues, over plain whole numbers: b·l + x, from the product p of n units and one or two differences. Assumes
-- nothing.
use mathlib.Core.Path.{◌≡◌, subst}
use Prim.Native.Nat.{ℕ, ◌+◌, ◌*◌, ◌^◌, ◌≤◌}
use native.Mathlib.Nat.{mul-le-mul_right}
use native.Mathlib.Omega.{arith}

-- b > 2^60 swallows half units, and W = b (U + h) + c U the rest
errors_primal : (bh bU cU nU U : ℕ) → nU ≤ 2 * bh + U → 2 ^ 60 * U ≤ bU → bh + 2 ^ 52 * U + (nU + cU + 2 ^ 52 * U) ≤ 4 * (bU + bh + cU)
errors_primal bh bU cU nU U l k = omega arith

errors_dual :
    (bh bU cU nU dU U : ℕ) → nU ≤ 2 * bh + U → dU ≤ 2 * (cU + bU) + U → 2 ^ 60 * U ≤ bU
    → bh + 2 ^ 52 * U + (dU + nU + 2 ^ 52 * U) + (cU + bU + 2 ^ 52 * U) ≤ 4 * (bU + bh + cU)
errors_dual bh bU cU nU dU U l m k = omega arith

weight_is : (b h c U : ℕ) → b * U + b * h + c * U ≡ b * (U + h) + c * U
weight_is b h c U = omega arith

large : (b U : ℕ) → 2 ^ 60 ≤ b → 2 ^ 60 * U ≤ b * U
large b U l = mul-le-mul_right U l

difference_times :
    (r s p q x y n c U : ℕ) → 2 ^ 53 * (r + (q + y)) ≤ 2 ^ 53 * (s + (p + x)) + (n + c + 2 ^ 52)
    → 2 ^ 53 * (r * U + q * U + y * U) ≤ 2 ^ 53 * (s * U + p * U + x * U) + (n * U + c * U + 2 ^ 52 * U)
difference_times r s p q x y n c U h = shape r s p q x y n c U (mul-le-mul_right U h)
  where
    shape :
        (r s p q x y n c U : ℕ) → 2 ^ 53 * (r + (q + y)) * U ≤ (2 ^ 53 * (s + (p + x)) + (n + c + 2 ^ 52)) * U
        → 2 ^ 53 * (r * U + q * U + y * U) ≤ 2 ^ 53 * (s * U + p * U + x * U) + (n * U + c * U + 2 ^ 52 * U)
    shape r s p q x y n c U h = omega arith

pub primal_sum_lem :
    (b h c U n rp rm pp pm lp lm xp xm : ℕ) → 2 ^ 60 ≤ b → n * U ≤ 2 * (b * h) + U
    → 2 ^ 53 * (pp * U + b * lm) ≤ 2 ^ 53 * (pm * U + b * lp) + (b * h + 2 ^ 52 * U)
    → 2 ^ 53 * (rp + (pm + xm)) ≤ 2 ^ 53 * (rm + (pp + xp)) + (n + c + 2 ^ 52)
    → 2 ^ 53 * (rp * U + b * lm + xm * U) ≤ 2 ^ 53 * (rm * U + b * lp + xp * U) + 4 * (b * (U + h) + c * U)
primal_sum_lem b h c U n rp rm pp pm lp lm xp xm lb most product difference =
    joined (rp * U) (rm * U) (pp * U) (pm * U) (b * lp) (b * lm) (xp * U) (xm * U) _ _ _ product
    (difference_times rp rm pp pm xp xm n c U difference)
    (subst (λ (z : ℕ). b * h + 2 ^ 52 * U + (n * U + c * U + 2 ^ 52 * U) ≤ 4 * z) (weight_is b h c U)
    (errors_primal (b * h) (b * U) (c * U) (n * U) U most (large b U lb)))
  where
    joined :
        (r s p q i j x y e f w : ℕ) → 2 ^ 53 * (p + j) ≤ 2 ^ 53 * (q + i) + e → 2 ^ 53 * (r + q + y) ≤ 2 ^ 53 * (s + p + x) + f → e + f ≤ w
        → 2 ^ 53 * (r + j + y) ≤ 2 ^ 53 * (s + i + x) + w
    joined r s p q i j x y e f w g k l = omega arith

-- d = z2 - z1 comes first: it is near x = xp - xm
pub dual-sum :
    (b h c U n d rp rm dp dm pp pm lp lm xp xm : ℕ) → 2 ^ 60 ≤ b → n * U ≤ 2 * (b * h) + U → d ≤ 2 * (c + b) + 1
    → 2 ^ 53 * (pp * U + b * lm) ≤ 2 ^ 53 * (pm * U + b * lp) + (b * h + 2 ^ 52 * U)
    → 2 ^ 53 * (dp + xm) ≤ 2 ^ 53 * (dm + xp) + (c + b + 2 ^ 52)
    → 2 ^ 53 * (rp + (dm + pm)) ≤ 2 ^ 53 * (rm + (dp + pp)) + (d + n + 2 ^ 52)
    → 2 ^ 53 * (rp * U + b * lm + xm * U) ≤ 2 ^ 53 * (rm * U + b * lp + xp * U) + 4 * (b * (U + h) + c * U)
dual-sum b h c U n d rp rm dp dm pp pm lp lm xp xm lb most dmost product first second =
    joined (rp * U) (rm * U) (dp * U) (dm * U) (pp * U) (pm * U) (b * lp) (b * lm) (xp * U) (xm * U) _ _ _ _ product
    (first-times dp dm xp xm c b U (mul-le-mul_right U first))
    (difference_times rp rm dp dm pp pm d n U second)
    (subst (λ (z : ℕ). b * h + 2 ^ 52 * U + (d * U + n * U + 2 ^ 52 * U) + (c * U + b * U + 2 ^ 52 * U) ≤ 4 * z) (weight_is b h c U)
    (errors_dual (b * h) (b * U) (c * U) (n * U) (d * U) U most (spread d c b U (mul-le-mul_right U dmost)) (large b U lb)))
  where
    first-times :
        (p q x y c b U : ℕ) → 2 ^ 53 * (p + y) * U ≤ (2 ^ 53 * (q + x) + (c + b + 2 ^ 52)) * U
        → 2 ^ 53 * (p * U + y * U) ≤ 2 ^ 53 * (q * U + x * U) + (c * U + b * U + 2 ^ 52 * U)
    first-times p q x y c b U h = omega arith

    spread : (d c b U : ℕ) → d * U ≤ (2 * (c + b) + 1) * U → d * U ≤ 2 * (c * U + b * U) + U
    spread d c b U h = omega arith

    joined :
        (r s d k p q i j x y e f g w : ℕ) → 2 ^ 53 * (p + j) ≤ 2 ^ 53 * (q + i) + e → 2 ^ 53 * (d + y) ≤ 2 ^ 53 * (k + x) + f
        → 2 ^ 53 * (r + k + q) ≤ 2 ^ 53 * (s + d + p) + g
        → e + g + f ≤ w → 2 ^ 53 * (r + j + y) ≤ 2 ^ 53 * (s + i + x) + w
    joined r s d k p q i j x y e f g w a b c l = omega arith
