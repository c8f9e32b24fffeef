-- Sums by Horner's rule whose products are cut to whole numbers of units, against the same sums uncut, over any coefficients and any
-- number Z of parts in a whole. Assumes nothing.
use Rattle.std.proofs.Common.{ℕ, zero, suc, ◌+◌, ◌*◌, ◌/◌, ◌<◌, ◌≤◌, List, [], ◌∷◌, le_of_lt, mul-le-mul_right, mul-le-mul_left, div-mul-le_self, le_of_mul-le-mul_right, arith}
use native.Mathlib.Nat.{lt-div-mul-add}
use Rattle.exponential.proofs.Polynomials.{value_at}

-- Z times itself, d times
unfoldable pub power : ℕ → ℕ → ℕ
power Z zero = 1
power Z (suc d) = Z * power Z d

module _ (Z : ℕ) (k : ℕ → ℕ) where
  -- the last of d coefficients is k 0
  unfoldable pub cut : ℕ → ℕ → ℕ
  cut r zero = 0
  cut r (suc d) = k d + r * cut r d / Z

  -- the polynomial uncut, times the power of Z that makes it whole
  unfoldable pub uncut : ℕ → List ℕ
  unfolding power
  uncut zero = []
  uncut (suc d) = k d * power Z d ∷ uncut d

  module _ (r : ℕ) (z : 0 < Z) where
    not-above : (d : ℕ) → cut r d * power Z d ≤ Z * value_at (uncut d) r
    unfolding cut uncut power value_at
    not-above zero = omega arith
    not-above (suc d) =
        go (k d) (cut r d) (r * cut r d / Z) (power Z d) (value_at (uncut d) r) (div-mul-le_self (r * cut r d) Z) (not-above d)
      where
        go : (c v h Q S : ℕ) → h * Z ≤ r * v → v * Q ≤ Z * S → (c + h) * (Z * Q) ≤ Z * (c * Q + r * S)
        go c v h Q S a b = omega (arith, mul-le-mul_right Q a, mul-le-mul_left r b)

    -- where r is so far below Z that s + 1 units, carried on and cut again, stay s + 1
    not-below : (s : ℕ) → suc s * r ≤ s * Z → (d : ℕ) → Z * value_at (uncut d) r ≤ (cut r d + suc s) * power Z d
    unfolding cut uncut power value_at
    not-below s l zero = omega arith
    not-below s l (suc d) =
        go (k d) (cut r d) (r * cut r d / Z) (power Z d) (value_at (uncut d) r)
        (le_of_lt (lt-div-mul-add {a = r * cut r d} {b = Z} z)) (not-below s l d)
      where
        go :
            (c v h Q S : ℕ) → r * v ≤ h * Z + Z → Z * S ≤ (v + suc s) * Q
            → Z * (c * Q + r * S) ≤ (c + h + suc s) * (Z * Q)
        go c v h Q S a b = omega (arith, mul-le-mul_right Q a, mul-le-mul_left r b, mul-le-mul_right Q l)

    -- of one coefficient or more, over the power of Z that the first has
    pub cut_not_above : (d : ℕ) → cut r (suc d) * power Z d ≤ value_at (uncut (suc d)) r
    unfolding power
    cut_not_above d = le_of_mul-le-mul_right {k = Z} (go (power Z d) (value_at (uncut (suc d)) r) (cut r (suc d)) (not-above (suc d))) z
      where
        go : (Q S v : ℕ) → v * (Z * Q) ≤ Z * S → v * Q * Z ≤ S * Z
        go Q S v h = omega arith

    pub cut_not_below : (s : ℕ) → suc s * r ≤ s * Z → (d : ℕ) → value_at (uncut (suc d)) r ≤ (cut r (suc d) + suc s) * power Z d
    unfolding power
    cut_not_below s l d =
        le_of_mul-le-mul_right {k = Z} (go (power Z d) (value_at (uncut (suc d)) r) (cut r (suc d)) (not-below s l (suc d))) z
      where
        go : (Q S v : ℕ) → Z * S ≤ (v + suc s) * (Z * Q) → S * Z ≤ (v + suc s) * Q * Z
        go Q S v h = omega arith
