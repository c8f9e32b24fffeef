-- The errors of the sum and of the two roundings together stay below 2^-44·max(1, |L|), with room to spare: over plain variables.
-- s / z is the sum, A / O is |L|, X / O is max(1, |L|), h / w is the answer; z is 2^53, y is 2^44, w is 2^1074. Assumes nothing.
use Rattle.std.proofs.Common.{◌≡◌, ℕ, ◌+◌, ◌*◌, ◌≤◌, ap, le_trans, le_of_eq, mul-le-mul_right, add-mul, mul-le-mul_left, mul-pos, le_of_mul-le-mul_right, arith}

-- each monomial of the errors by itself
errors_below :
    (w y z A O X : ℕ) → 1 ≤ z → A ≤ X → O ≤ X
    → (2 * z * A + 2 * A + 5 * O) * (w * y * ((z + 1) * (z + 1))) ≤ 2 * (w * y * A) * (z * z * z) + 34 * (w * y * X * (z * z))
errors_below w y z A O X hz ha ho = le_trans (first (w * y)) (second (w * y))
  where
    first :
        (c : ℕ) → (2 * z * A + 2 * A + 5 * O) * (c * ((z + 1) * (z + 1))) ≤ 2 * (c * A) * (z * z * z) + c * X * (11 * (z * z) + 16 * z + 7)
    first c = omega (arith, mul-le-mul_left (c * (6 * (z * z) + 6 * z + 2)) ha, mul-le-mul_left (c * (5 * (z * z) + 10 * z + 5)) ho)

    second : (c : ℕ) → 2 * (c * A) * (z * z * z) + c * X * (11 * (z * z) + 16 * z + 7) ≤ 2 * (c * A) * (z * z * z) + 34 * (c * X * (z * z))
    second c = omega (arith, mul-le-mul_left (c * X * z) hz, mul-le-mul_left (c * X) hz)

-- 34 of them are allowed 1024
room : (w y z X : ℕ) → z ≡ 512 * y → 34 * (w * y * X * (z * z)) ≤ 2 * (w * X) * (z * z * z)
room w y z X h = omega (arith, ap (λ (t : ℕ). w * X * (z * z) * t) h)

pub answer_not_above :
    (y z w h s A O X : ℕ) → 1 ≤ z → z ≡ 512 * y → A ≤ X → O ≤ X → 2 * (s * O) ≤ 2 * z * A + 2 * A + 5 * O
    → h * z * z * z ≤ s * w * (z + 1) * (z + 1)
    → y * (h * O) ≤ y * (A * w) + X * w
answer_not_above y z w h s A O X hz ez ha ho k₁ k₂ =
    le_of_mul-le-mul_right {k = 2 * (z * z * z)}
    (le_trans a (le_trans b (le_trans (errors_below w y z A O X hz ha ho) c)))
    (mul-pos {m = 2} (omega arith) (mul-pos (mul-pos hz hz) hz))
  where
    a : y * (h * O) * (2 * (z * z * z)) ≤ 2 * (s * O) * (w * y * ((z + 1) * (z + 1)))
    a = le_trans (le_of_eq (l h)) (le_trans (mul-le-mul_right (2 * O * y) k₂) (le_of_eq (r (z + 1))))
      where
        l : (h : ℕ) → y * (h * O) * (2 * (z * z * z)) ≡ h * z * z * z * (2 * O * y)
        l h = omega arith

        r : (v : ℕ) → s * w * v * v * (2 * O * y) ≡ 2 * (s * O) * (w * y * (v * v))
        r v = omega arith

    b : 2 * (s * O) * (w * y * ((z + 1) * (z + 1))) ≤ (2 * z * A + 2 * A + 5 * O) * (w * y * ((z + 1) * (z + 1)))
    b = mul-le-mul_right (w * y * ((z + 1) * (z + 1))) k₁

    c : 2 * (w * y * A) * (z * z * z) + 34 * (w * y * X * (z * z)) ≤ (y * (A * w) + X * w) * (2 * (z * z * z))
    c = omega (arith, room w y z X ez)

pub answer_not_below :
    (y z w h s A O X : ℕ) → 1 ≤ z → z ≡ 512 * y → A ≤ X → O ≤ X → 2 * (s * O) ≤ 2 * z * A + 2 * A + 5 * O
    → 2 * z * A ≤ 2 * (s * O) + (2 * A + 5 * O)
    → s * w * z * z ≤ h * z * z * z + s * w * (2 * z + 1) → y * (A * w) ≤ y * (h * O) + X * w
answer_not_below y z w h s A O X hz ez ha ho k₁ k₃ k₄ =
    le_of_mul-le-mul_right {k = 2 * (z * z * z)}
    (le_trans (chained _ _ _ _ _ _ _ a b c (le_trans (d (w * y)) (e (w * y)))) f)
    (mul-pos {m = 2} (omega arith) (mul-pos (mul-pos hz hz) hz))
  where
    a : y * (A * w) * (2 * (z * z * z)) ≤ 2 * (s * O) * (w * y * (z * z)) + (2 * A + 5 * O) * (w * y * (z * z))
    a =
        le_trans (le_of_eq l) (le_trans (mul-le-mul_right (w * y * (z * z)) k₃)
        (le_of_eq (add-mul (2 * (s * O)) (2 * A + 5 * O) (w * y * (z * z)))))
      where
        l : y * (A * w) * (2 * (z * z * z)) ≡ 2 * z * A * (w * y * (z * z))
        l = omega arith

    b : 2 * (s * O) * (w * y * (z * z)) ≤ y * (h * O) * (2 * (z * z * z)) + 2 * (s * O) * (w * y * (2 * z + 1))
    b = le_trans (le_of_eq l) (le_trans (mul-le-mul_right (2 * O * y) k₄) (le_of_eq (r (2 * z + 1))))
      where
        l : 2 * (s * O) * (w * y * (z * z)) ≡ s * w * z * z * (2 * O * y)
        l = omega arith

        r : (v : ℕ) → (h * z * z * z + s * w * v) * (2 * O * y) ≡ y * (h * O) * (2 * (z * z * z)) + 2 * (s * O) * (w * y * v)
        r v = omega arith

    c : 2 * (s * O) * (w * y * (2 * z + 1)) ≤ (2 * z * A + 2 * A + 5 * O) * (w * y * (2 * z + 1))
    c = mul-le-mul_right (w * y * (2 * z + 1)) k₁

    d : (c : ℕ) → (2 * z * A + 2 * A + 5 * O) * (c * (2 * z + 1)) + (2 * A + 5 * O) * (c * (z * z)) ≤ c * X * (11 * (z * z) + 16 * z + 7)
    d c = omega (arith, mul-le-mul_left (c * (6 * (z * z) + 6 * z + 2)) ha, mul-le-mul_left (c * (5 * (z * z) + 10 * z + 5)) ho)

    e : (c : ℕ) → c * X * (11 * (z * z) + 16 * z + 7) ≤ 34 * (c * X * (z * z))
    e c = omega (arith, mul-le-mul_left (c * X * z) hz, mul-le-mul_left (c * X) hz)

    f : y * (h * O) * (2 * (z * z * z)) + 34 * (w * y * X * (z * z)) ≤ (y * (h * O) + X * w) * (2 * (z * z * z))
    f = omega (arith, ap (λ (t : ℕ). w * X * (z * z) * t) ez)

    chained : (p q r t u v g : ℕ) → p ≤ q + t → q ≤ r + u → u ≤ v → v + t ≤ g → p ≤ r + g
    chained p q r t u v g a b c d = omega arith
