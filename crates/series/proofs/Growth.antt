-- How much the odd sum at (y-b)/(y+b) grows when y becomes y + d: between d/(y+d), but for a tail, and d/y. Everything multiplied out.
-- Assumes nothing.
use mathlib.Core.Path.{◌≡◌, sym, ap, subst}
use Prim.Native.Nat.{ℕ, suc, ◌+◌, ◌*◌, ◌^◌, ◌≤◌, ◌<◌}
use native.Mathlib.Nat.{le_of_eq, mul_comm, mul-le-mul_left}
use native.Mathlib.Omega.{arith}
use Rattle.arith.proofs.Powers.{pow_of_product}
use Rattle.series.proofs.OddPowers.{odds, evens, geometric, odds_grow_at_most, odds_grow_at_least, odds_homogeneous}

upper-sum :
    (y y' q q' b d l o o' g k : ℕ) → o' ≤ o + l * (2 * b * d * g) → y * q' ≤ y' * q → g * (q * q) * (4 * b * y') ≤ k
    → 2 * y * (o' * (q * q')) ≤ 2 * y * (o * (q * q')) + d * (l * k)
upper-sum y y' q q' b d l o o' g k h1 h2 h3 =
    omega (arith, mul-le-mul_left (2 * y * (q * q')) h1, mul-le-mul_left (l * d * 4 * b * g * q) h2, mul-le-mul_left (d * l) h3)

lower_sum :
    (y y' q q' b d l o o' g k t : ℕ) → o + l * (2 * b * d * g) ≤ o' → y * q' ≤ y' * q → g * (q' * q') * (4 * b * y) + t ≡ k
    → 2 * y' * (o * (q * q')) + d * (l * k) ≤ 2 * y' * (o' * (q * q')) + d * (l * t)
lower_sum y y' q q' b d l o o' g k t h1 h2 h3 = chained _ _ _ _ _ _ (s1 h1) (s2 h3) (s3 h2)
  where
    chained : (a b c d e f : ℕ) → a + b ≤ c → d ≤ e + f → e ≤ b → a + d ≤ c + f
    chained a b c d e f h1 h2 h3 = omega arith

    s1 : o + l * (2 * b * d * g) ≤ o' → 2 * y' * (o * (q * q')) + 2 * y' * (q * q') * (l * (2 * b * d * g)) ≤ 2 * y' * (o' * (q * q'))
    s1 h = omega (arith, mul-le-mul_left (2 * y' * (q * q')) h)

    s2 : g * (q' * q') * (4 * b * y) + t ≡ k → d * (l * k) ≤ d * (l * (g * (q' * q') * (4 * b * y))) + d * (l * t)
    s2 h = omega (arith, mul-le-mul_left (d * l) (le_of_eq (sym h)))

    s3 : y * q' ≤ y' * q → d * (l * (g * (q' * q') * (4 * b * y))) ≤ 2 * y' * (q * q') * (l * (2 * b * d * g))
    s3 h = omega (arith, mul-le-mul_left (l * d * 4 * b * g * q') h)

module _ (w : ℕ → ℕ) (l n : ℕ) (hw : (j : ℕ) → j < n → suc (j + j) * w j ≡ l) where
  -- from p/q = (y-b)/(y+b) to p'/q' = (y'-b)/(y'+b), with y' = y + d
  module _
      (b d p p' q q' y y' : ℕ) (cross : p * q' + 2 * b * d ≡ p' * q) (ratio : y * q' ≤ y' * q) (square : q * q ≡ p * p + 4 * b * y)
      (square' : q' * q' ≡ p' * p' + 4 * b * y') where
    after_at_common : odds w n (p' * q) (q * q') * (q * q') ≡ odds w n p' q' * q' * q ^ (n + n)
    after_at_common =
        let e : odds w n (p' * q) (q' * q) * q ≡ odds w n p' q' * q ^ (n + n) = odds_homogeneous w n q p' q' in
        rw (mul_comm q q') (omega (arith, ap (λ (x : ℕ). x * q') e))

    before_at_common : odds w n (p * q') (q * q') * (q * q') ≡ odds w n p q * q * q' ^ (n + n)
    before_at_common = omega (arith, ap (λ (x : ℕ). x * q) (odds_homogeneous w n q' p q))

    evens-above :
        (g x : ℕ) → g * (q * q' * (q * q')) + x ≡ (q * q') ^ (n + n) + g * (p' * q * (p' * q))
        → g * (q * q) * (4 * b * y') ≤ (q * q') ^ (n + n)
    evens-above g x h = omega (arith, ap (λ (z : ℕ). g * (q * q) * z) square')

    evens-below :
        (g x : ℕ) → g * (q * q' * (q * q')) + x ≡ (q * q') ^ (n + n) + g * (p * q' * (p * q'))
        → g * (q' * q') * (4 * b * y) + x ≡ (q * q') ^ (n + n)
    evens-below g x h = omega (arith, ap (λ (z : ℕ). g * (q' * q') * z) square)

    pub grows_at_most :
        2 * y * (odds w n p' q' * q' * q ^ (n + n)) ≤ 2 * y * (odds w n p q * q * q' ^ (n + n)) + d * (l * (q ^ (n + n) * q' ^ (n + n)))
    grows_at_most =
        rw
        (← after_at_common, ← before_at_common, ← pow_of_product q q' (n + n))
        (upper-sum y y' q q' b d l _ _ (evens n (p' * q) (q * q')) _
        (subst
        (λ (x : ℕ). odds w n x (q * q') ≤ odds w n (p * q') (q * q') + l * (2 * b * d * evens n x (q * q')))
        cross
        (odds_grow_at_most w l n hw (p * q') (2 * b * d) (q * q')))
        ratio
        (evens-above _ _ (geometric n (p' * q) (q * q'))))

    pub grows_at_least :
        2 * y' * (odds w n p q * q * q' ^ (n + n)) + d * (l * (q ^ (n + n) * q' ^ (n + n)))
        ≤ 2 * y' * (odds w n p' q' * q' * q ^ (n + n)) + d * (l * (p ^ (n + n) * q' ^ (n + n)))
    grows_at_least =
        rw
        (← after_at_common, ← before_at_common, ← pow_of_product q q' (n + n), ← pow_of_product p q' (n + n))
        (lower_sum y y' q q' b d l _ _ (evens n (p * q') (q * q')) _ _
        (subst
        (λ (x : ℕ). odds w n (p * q') (q * q') + l * (2 * b * d * evens n (p * q') (q * q')) ≤ odds w n x (q * q'))
        cross
        (odds_grow_at_least w l n hw (p * q') (2 * b * d) (q * q')))
        ratio
        (evens-below _ _ (geometric n (p * q') (q * q'))))
