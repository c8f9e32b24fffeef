-- All errors together, over plain whole numbers: the residue (rp - rm)/U is near b·l + x, x = (xp - xm)/U, and l is near L = (P - M)/O.
-- Assumes nothing.
use Prim.Native.Nat.{ℕ, suc, ◌+◌, ◌*◌, ◌^◌, ◌≤◌, ◌<◌}
use native.Mathlib.Nat.{le_trans, mul-le-mul_left, mul-le-mul_right, lt_of_mul-lt-mul_right, mul-pos}
use native.Mathlib.Omega.{arith}

-- what is added up, each over its own denominators
near_times :
    (b U O rp rm lp lm xp xm W : ℕ) → 2 ^ 53 * (rp * U + b * lm + xm * U) ≤ 2 ^ 53 * (rm * U + b * lp + xp * U) + 4 * W
    → 2 ^ 53 * (rp * U * O + b * lm * O + xm * U * O) ≤ 2 ^ 53 * (rm * U * O + b * lp * O + xp * U * O) + 4 * (W * O)
near_times b U O rp rm lp lm xp xm W h = go (mul-le-mul_right O h)
  where
    go :
        2 ^ 53 * (rp * U + b * lm + xm * U) * O ≤ (2 ^ 53 * (rm * U + b * lp + xp * U) + 4 * W) * O
        → 2 ^ 53 * (rp * U * O + b * lm * O + xm * U * O) ≤ 2 ^ 53 * (rm * U * O + b * lp * O + xp * U * O) + 4 * (W * O)
    go = shape b U O rp rm lp lm xp xm W
      where
        shape :
            (b U O rp rm lp lm xp xm W : ℕ) → 2 ^ 53 * (rp * U + b * lm + xm * U) * O ≤ (2 ^ 53 * (rm * U + b * lp + xp * U) + 4 * W) * O
            → 2 ^ 53 * (rp * U * O + b * lm * O + xm * U * O) ≤ 2 ^ 53 * (rm * U * O + b * lp * O + xp * U * O) + 4 * (W * O)
        shape b U O rp rm lp lm xp xm W h = omega arith

log-times :
    (b U O lp lm P M h W : ℕ) → 2 ^ 42 * (lp * O + M * U) ≤ 2 ^ 42 * (lm * O + P * U) + (U + h) * O → b * (U + h) ≤ W
    → 2 ^ 42 * (b * lp * O + b * M * U) ≤ 2 ^ 42 * (b * lm * O + b * P * U) + W * O
log-times b U O lp lm P M h W a w = le_trans (shape b U O lp lm P M h (mul-le-mul_left b a)) (add_right _ (mul-le-mul_right O w))
  where
    shape :
        (b U O lp lm P M h : ℕ) → b * (2 ^ 42 * (lp * O + M * U)) ≤ b * (2 ^ 42 * (lm * O + P * U) + (U + h) * O)
        → 2 ^ 42 * (b * lp * O + b * M * U) ≤ 2 ^ 42 * (b * lm * O + b * P * U) + b * (U + h) * O
    shape b U O lp lm P M h a = omega arith

    add_right : {x y : ℕ} (a : ℕ) → x ≤ y → a + x ≤ a + y
    add_right a h = omega arith

pub above-sum :
    (b U O h rp rm lp lm xp xm P M m W : ℕ) → 0 < U → 0 < O
    → 2 ^ 53 * (rp * U + b * lm + xm * U) ≤ 2 ^ 53 * (rm * U + b * lp + xp * U) + 4 * W
    → 2 ^ 42 * (lp * O + M * U) ≤ 2 ^ 42 * (lm * O + P * U) + (U + h) * O → b * (U + h) ≤ W → W ≤ 2 ^ 41 * (m * U) → rm + m < rp
    → b * M + xm * O < b * P + xp * O
above-sum b U O h rp rm lp lm xp xm P M m W pU pO near log bW heavy more =
    lt_of_mul-lt-mul_right U
    (goal b M U xm O P xp
    (joined (rp * U * O) (rm * U * O) (b * lp * O) (b * lm * O) (xp * U * O) (xm * U * O) (b * P * U) (b * M * U) (W * O) (m * U * O)
    (U * O) (mul-pos pU pO)
    (near_times b U O rp rm lp lm xp xm W near)
    (log-times b U O lp lm P M h W log bW)
    (margin-times W m U O (mul-le-mul_right O heavy))
    (yes_times rm m rp U O (mul-le-mul_right (U * O) more))))
  where
    margin-times : (W m U O : ℕ) → W * O ≤ 2 ^ 41 * (m * U) * O → W * O ≤ 2 ^ 41 * (m * U * O)
    margin-times W m U O h = omega arith

    yes_times : (rm m rp U O : ℕ) → suc (rm + m) * (U * O) ≤ rp * (U * O) → rm * U * O + m * U * O + U * O ≤ rp * U * O
    yes_times rm m rp U O h = omega arith

    goal : (b M U xm O P xp : ℕ) → b * M * U + xm * U * O < b * P * U + xp * U * O → (b * M + xm * O) * U < (b * P + xp * O) * U
    goal b M U xm O P xp h = omega arith

    joined :
        (r s i j x y p q w m o : ℕ) → 0 < o → 2 ^ 53 * (r + j + y) ≤ 2 ^ 53 * (s + i + x) + 4 * w → 2 ^ 42 * (i + q) ≤ 2 ^ 42 * (j + p) + w
        → w ≤ 2 ^ 41 * m
        → s + m + o ≤ r → q + y < p + x
    joined r s i j x y p q w m o po a b c d = omega arith
