-- What is said of the difference of two signed fractions holds of every two that are the same numbers. Assumes nothing.
use mathlib.Core.Path.{◌≡◌, ap}
use Prim.Native.Nat.{ℕ, ◌+◌, ◌*◌, ◌≤◌, ◌<◌}
use native.Mathlib.Nat.{mul-le-mul_right, le_of_mul-le-mul_right}
use native.Mathlib.Omega.{arith}
use Rattle.series.specs.Series.{Signed, Same}
use Rattle.series.specs.change.Distances.{AtMostBy}

exchanged : (a b c d e f g : ℕ) → a + b ≤ c + d + e → f + d ≡ a + g → f + b ≤ c + g + e
exchanged a b c d e f g h k = omega arith

-- the second of the two
second_moves :
    (k e p l o q m w q' m' w' : ℕ) → 0 < w → q * w' + m' * w ≡ q' * w + m * w'
    → k * (q * o + l * w) ≤ k * (p * w + m * o) + e * (o * w) → k * (q' * o + l * w') ≤ k * (p * w' + m' * o) + e * (o * w')
second_moves k e p l o q m w q' m' w' pw y h =
    le_of_mul-le-mul_right {k = w}
    (goal (exchanged (k * q * o * w') (k * l * w * w') (k * p * w * w') (k * m * o * w') (e * o * w * w') (k * q' * o * w) (k * m' * o * w)
    (given (mul-le-mul_right w' h)) (cross (ap (λ (t : ℕ). k * o * t) y)))) pw
  where
    given :
        k * (q * o + l * w) * w' ≤ (k * (p * w + m * o) + e * (o * w)) * w'
        → k * q * o * w' + k * l * w * w' ≤ k * p * w * w' + k * m * o * w' + e * o * w * w'
    given = expand k e p l o q m w w'
      where
        expand :
            (k e p l o q m w s : ℕ) → k * (q * o + l * w) * s ≤ (k * (p * w + m * o) + e * (o * w)) * s
            → k * q * o * s + k * l * w * s ≤ k * p * w * s + k * m * o * s + e * o * w * s
        expand k e p l o q m w s h = omega arith

    cross : k * o * (q * w' + m' * w) ≡ k * o * (q' * w + m * w') → k * q' * o * w + k * m * o * w' ≡ k * q * o * w' + k * m' * o * w
    cross = expand k o q m w q' m' w'
      where
        expand :
            (k o q m w q' m' w' : ℕ) → k * o * (q * w' + m' * w) ≡ k * o * (q' * w + m * w')
            → k * q' * o * w + k * m * o * w' ≡ k * q * o * w' + k * m' * o * w
        expand k o q m w q' m' w' h = omega arith

    goal :
        k * q' * o * w + k * l * w * w' ≤ k * p * w * w' + k * m' * o * w + e * o * w * w'
        → k * (q' * o + l * w') * w ≤ (k * (p * w' + m' * o) + e * (o * w')) * w
    goal = collect k e p l o q' m' w w'
      where
        collect :
            (k e p l o q m w v : ℕ) → k * q * o * w + k * l * w * v ≤ k * p * w * v + k * m * o * w + e * o * w * v
            → k * (q * o + l * v) * w ≤ (k * (p * v + m * o) + e * (o * v)) * w
        collect k e p l o q m w v h = omega arith

pub difference_moves :
    (k e : ℕ) {x y x' y' : Signed} → 0 < x.over → 0 < y.over → Same x x' → Same y y' → AtMostBy k e x y → AtMostBy k e x' y'
difference_moves k e px py a b h =
    let g = second_moves k e _ _ _ _ _ _ _ _ _ py b.crosswise h in
    turned k e _ _ _ _ _ _ (second_moves k e _ _ _ _ _ _ _ _ _ px (minus _ _ _ _ _ _ a.crosswise) (turned k e _ _ _ _ _ _ g))
  where
    -- y - x is -x - (-y)
    turned :
        (k e p l o q m w : ℕ) → k * (q * o + l * w) ≤ k * (p * w + m * o) + e * (o * w)
        → k * (l * w + q * o) ≤ k * (m * o + p * w) + e * (w * o)
    turned k e p l o q m w h = omega arith

    minus : (p l o p' l' o' : ℕ) → p * o' + l' * o ≡ p' * o + l * o' → l * o' + p' * o ≡ l' * o + p * o'
    minus p l o p' l' o' e = omega arith
