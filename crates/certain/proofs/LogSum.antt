-- The error sum of the logarithm, over plain whole numbers: l = (lp - lm)/U is close to y = (p - m)/o, which is near x = (P - M)/O. U units
-- are 1. Assumes nothing.
use mathlib.Core.Path.{◌≡◌, ap, subst}
use Prim.Native.Nat.{ℕ, ◌+◌, ◌-◌, ◌*◌, ◌^◌, ◌≤◌, ◌<◌, max}
use native.Mathlib.Nat.{le_trans, mul-le-mul_right, le_of_mul-le-mul_right, max-le, le-add_left, le-add_right}
use native.Mathlib.Decide.{dec_lt}
use native.Mathlib.Omega.{arith}

-- max(1, |y|), by what is known of l: at most 3 (1 + |l|)
size_by_log :
    (lp lm o p m U X : ℕ) → X ≤ o * U + (p - m + (m - p)) * U → 2 ^ 44 * (lp * o + m * U) ≤ 2 ^ 44 * (lm * o + p * U) + X
    → 2 ^ 44 * (lm * o + p * U) ≤ 2 ^ 44 * (lp * o + m * U) + X → X ≤ 3 * (o * (U + (lp + lm)))
size_by_log lp lm o p m U X top hi lo = go (dec_lt p m)
  where
    low : (d : ℕ) → m ≡ p + d → X ≤ o * U + d * U → X ≤ 3 * (o * (U + (lp + lm)))
    low d e t =
        shape lp lm o U X (d * U) (p * U) t (subst (λ (z : ℕ). 2 ^ 44 * (lp * o + z) ≤ 2 ^ 44 * (lm * o + p * U) + X) (spread p d U m e) hi)
      where
        spread : (p d U m : ℕ) → m ≡ p + d → m * U ≡ p * U + d * U
        spread p d U m e = omega (arith, ap (λ (t : ℕ). t * U) e)

        shape :
            (lp lm o U X z w : ℕ) → X ≤ o * U + z → 2 ^ 44 * (lp * o + (w + z)) ≤ 2 ^ 44 * (lm * o + w) + X → X ≤ 3 * (o * (U + (lp + lm)))
        shape lp lm o U X z w t h = omega arith

    high : (d : ℕ) → p ≡ m + d → X ≤ o * U + d * U → X ≤ 3 * (o * (U + (lp + lm)))
    high d e t =
        shape lp lm o U X (d * U) (m * U) t (subst (λ (z : ℕ). 2 ^ 44 * (lm * o + z) ≤ 2 ^ 44 * (lp * o + m * U) + X) (spread m d U p e) lo)
      where
        spread : (p d U m : ℕ) → m ≡ p + d → m * U ≡ p * U + d * U
        spread p d U m e = omega (arith, ap (λ (t : ℕ). t * U) e)

        shape :
            (lp lm o U X z w : ℕ) → X ≤ o * U + z → 2 ^ 44 * (lm * o + (w + z)) ≤ 2 ^ 44 * (lp * o + w) + X → X ≤ 3 * (o * (U + (lp + lm)))
        shape lp lm o U X z w t h = omega arith

    go : Dec (p < m) → X ≤ 3 * (o * (U + (lp + lm)))
    go (yes l) = low (m - p) (back p m l) (subst (λ (z : ℕ). X ≤ o * U + z * U) (only p m l) top)
      where
        back : (p m : ℕ) → p < m → m ≡ p + (m - p)
        back p m l = omega arith

        only : (p m : ℕ) → p < m → p - m + (m - p) ≡ m - p
        only p m l = omega arith
    go (no l) = high (p - m) (back p m l) (subst (λ (z : ℕ). X ≤ o * U + z * U) (only p m l) top)
      where
        back : (p m : ℕ) → (p < m → ⊥) → p ≡ m + (p - m)
        back p m l = omega arith

        only : (p m : ℕ) → (p < m → ⊥) → p - m + (m - p) ≡ p - m
        only p m l = omega arith

pub max-most : (o a U : ℕ) → max o a * U ≤ o * U + a * U
max-most o a U = le_trans (mul-le-mul_right U (max-le {k = o + a} (le-add_right o a) (le-add_left a o))) (spread o a U)
  where
    spread : (o a U : ℕ) → (o + a) * U ≤ o * U + a * U
    spread o a U = omega arith

log_shape :
    (lp lm o p m U h O P M : ℕ) → 0 < o → 2 ^ 44 * (lp * o + m * U) ≤ 2 ^ 44 * (lm * o + p * U) + 3 * (o * (U + h))
    → 2 ^ 52 * (p * O + M * o) ≤ 2 ^ 52 * (P * o + m * O) + 1 * (O * o)
    → 2 ^ 42 * (lp * O + M * U) ≤ 2 ^ 42 * (lm * O + P * U) + (U + h) * O
log_shape lp lm o p m U h O P M po c d =
    le_of_mul-le-mul_right {k = o}
    (joined (lp * O * o) (lm * O * o) (m * U * O) (p * U * O) (M * U * o) (P * U * o) (U * O * o) (h * O * o) _ _ (left lp o O M U)
    (right lm o O P U h) (first lp lm o p m U h O (mul-le-mul_right O c))
    (second p O M o P m U (mul-le-mul_right U d))) po
  where
    first :
        (lp lm o p m U h O : ℕ) → 2 ^ 44 * (lp * o + m * U) * O ≤ (2 ^ 44 * (lm * o + p * U) + 3 * (o * (U + h))) * O
        → 2 ^ 44 * (lp * O * o + m * U * O) ≤ 2 ^ 44 * (lm * O * o + p * U * O) + 3 * (U * O * o + h * O * o)
    first lp lm o p m U h O c = omega arith

    second :
        (p O M o P m U : ℕ) → 2 ^ 52 * (p * O + M * o) * U ≤ (2 ^ 52 * (P * o + m * O) + 1 * (O * o)) * U
        → 2 ^ 52 * (p * U * O + M * U * o) ≤ 2 ^ 52 * (P * U * o + m * U * O) + U * O * o
    second p O M o P m U d = omega arith

    left : (lp o O M U : ℕ) → 2 ^ 42 * (lp * O + M * U) * o ≡ 2 ^ 42 * (lp * O * o + M * U * o)
    left lp o O M U = omega arith

    right : (lm o O P U h : ℕ) → (2 ^ 42 * (lm * O + P * U) + (U + h) * O) * o ≡ 2 ^ 42 * (lm * O * o + P * U * o) + (U * O * o + h * O * o)
    right lm o O P U h = omega arith

    joined :
        (a b c d e f u v X Y : ℕ) → X ≡ 2 ^ 42 * (a + e) → Y ≡ 2 ^ 42 * (b + f) + (u + v)
        → 2 ^ 44 * (a + c) ≤ 2 ^ 44 * (b + d) + 3 * (u + v)
        → 2 ^ 52 * (d + e) ≤ 2 ^ 52 * (f + c) + u → X ≤ Y
    joined a b c d e f u v X Y i j h k = omega arith

-- |l - x| is at most 2^-42·(1 + |l|)
pub log-sum :
    (lp lm o p m U O P M : ℕ) → 0 < o → 2 ^ 44 * (lp * o + m * U) ≤ 2 ^ 44 * (lm * o + p * U) + max o (p - m + (m - p)) * U
    → 2 ^ 44 * (lm * o + p * U) ≤ 2 ^ 44 * (lp * o + m * U) + max o (p - m + (m - p)) * U
    → 2 ^ 52 * (p * O + M * o) ≤ 2 ^ 52 * (P * o + m * O) + 1 * (O * o)
    → 2 ^ 42 * (lp * O + M * U) ≤ 2 ^ 42 * (lm * O + P * U) + (U + (lp + lm)) * O
log-sum lp lm o p m U O P M po hi lo near =
    log_shape lp lm o p m U (lp + lm) O P M po
    (le_trans hi (add_right (2 ^ 44 * (lm * o + p * U)) (size_by_log lp lm o p m U _ (max-most o (p - m + (m - p)) U) hi lo))) near
  where
    add_right : {x y : ℕ} (a : ℕ) → x ≤ y → a + x ≤ a + y
    add_right a h = omega arith

-- |l| is at most 2^12, |x| being at most 2003
pub log-most : (h O P M U : ℕ) → 0 < O → P ≤ 2003 * O → 2 ^ 42 * (h * O + M * U) ≤ 2 ^ 42 * (0 * O + P * U) + (U + h) * O → h ≤ 4096 * U
log-most h O P M U pO most a =
    le_of_mul-le-mul_right {k = O}
    (subst (λ (z : ℕ). h * O ≤ z) (regrouped U O)
    (shape (h * O) (P * U) (U * O) (M * U) (spread h O P M U a) (least P O U (mul-le-mul_right U most)))) pO
  where
    spread :
        (h O P M U : ℕ) → 2 ^ 42 * (h * O + M * U) ≤ 2 ^ 42 * (0 * O + P * U) + (U + h) * O
        → 2 ^ 42 * (h * O + M * U) ≤ 2 ^ 42 * (P * U) + (U * O + h * O)
    spread h O P M U a = omega arith

    least : (P O U : ℕ) → P * U ≤ 2003 * O * U → P * U ≤ 2003 * (U * O)
    least P O U h = omega arith

    shape : (x y z w : ℕ) → 2 ^ 42 * (x + w) ≤ 2 ^ 42 * y + (z + x) → y ≤ 2003 * z → x ≤ 4096 * z
    shape x y z w a m = omega arith

    regrouped : (U O : ℕ) → 4096 * (U * O) ≡ 4096 * U * O
    regrouped U O = omega arith
