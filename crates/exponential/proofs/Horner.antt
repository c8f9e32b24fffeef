-- The sum by Horner's rule against the exact one, term by term from the last: at each step two numbers are cut to whole units, and r is cut
-- once. Assumes nothing.
use Rattle.std.proofs.Common.{◌≡◌, ℕ, zero, suc, ◌+◌, ◌-◌, ◌*◌, ◌/◌, ◌^◌, ◌<◌, ◌≤◌, le_trans, le_of_eq, le_refl, le-add_right, lt_of_le_of_lt, le_of_lt, add-le-add, mul-le-mul_right, add-mul, mul-le-mul, mul-le-mul_left, div-mul-le_self, le_of_mul-le-mul_right, arith, lit<, lit≤}
use native.Mathlib.Nat.{lt-div-mul-add, pow-succ', pow-zero}
use lib.Pow.{shr_mono}
use Rattle.rounding.specs.Within.{Within}
use Rattle.exponential.specs.Sum.{factorial, share}
use Rattle.exponential.specs.Steps.{third_in64, coefficient, horner}
use Rattle.exponential.proofs.Coefficients.{coefficient_not_above, coefficient_not_below, largest-sum, sum_below_two}

-- the exact sum at p/q from the term i = 39 - d on, over (p/q)^(39 - d): its numerator over 39!·q^d
unfoldable pub last_terms : ℕ → ℕ → ℕ → ℕ
unfolding share
last_terms p q zero = 1
last_terms p q (suc d) = share (38 - d) * q ^ suc d + p * last_terms p q d

-- ---- one step, over plain numbers: Z units in 1 of r, M in 1 of the sum, A the common denominator, Q = q^d

-- h = r·v/Z rounded down
module _ (Z A M w c p q r v T Q h : ℕ) (z : 0 < Z) where
  step_not_above : c * A ≤ M * w → r * q ≤ p * Z → v * (A * Q) ≤ M * T → h * Z ≤ r * v → (c + h) * (A * (q * Q)) ≤ M * (w * (q * Q) + p * T)
  step_not_above hc hr hv hh =
      let first : c * A * (q * Q) ≤ M * w * (q * Q) = mul-le-mul_right (q * Q) hc in
      let second : h * (A * (q * Q)) ≤ M * (p * T) =
      le_of_mul-le-mul_right {k = Z} (omega (arith, mul-le-mul_right (A * (q * Q)) hh, mul-le-mul hr hv)) z in
      omega arith

module _ (Z A M w c p q r v T Q h δ κ e : ℕ) (z : 0 < Z) where
  product_not_below : p * Z ≤ (r + δ) * q → δ * v ≤ Z * κ → r * v ≤ h * Z + Z → p * v ≤ (h + 1 + κ) * q
  product_not_below hr hd hh =
      le_of_mul-le-mul_right {k = Z} (omega (arith, mul-le-mul_right v hr, mul-le-mul_right q hd, mul-le-mul_right q hh)) z

  step_not_below : M * w ≤ (c + 1) * A → p * Z ≤ (r + δ) * q → p ≤ q → δ * v ≤ Z * κ → r * v ≤ h * Z + Z → M * T ≤ (v + e) * (A * Q)
      → M * (w * (q * Q) + p * T) ≤ (c + h + (e + (κ + 2))) * (A * (q * Q))
  step_not_below hc hr hpq hd hh hv =
      let first : M * w * (q * Q) ≤ (c + 1) * A * (q * Q) = mul-le-mul_right (q * Q) hc in
      let second : p * (M * T) ≤ p * ((v + e) * (A * Q)) = mul-le-mul_left p hv in
      let third : p * v * (A * Q) ≤ (h + 1 + κ) * q * (A * Q) = mul-le-mul_right (A * Q) (product_not_below hr hd hh) in
      let fourth : p * (e * (A * Q)) ≤ q * (e * (A * Q)) = mul-le-mul_right (e * (A * Q)) hpq in
      omega arith

-- ---- all the steps

horner_mono : {r s : ℕ} → r ≤ s → (d : ℕ) → horner r d ≤ horner s d
unfolding horner
horner_mono h zero = le_refl 0
horner_mono h (suc d) = add-le-add (le_refl (coefficient (38 - d))) (shr_mono 64 (mul-le-mul h (horner_mono h d)))

pub horner-most : (r d : ℕ) → r ≤ third_in64 + 2048 → d < 40 → horner r d ≤ 2 ^ 63 + 1024
horner-most r d h l = le_trans (horner_mono h d) (largest-sum d l)

pub horner_below_two : (r : ℕ) → r ≤ third_in64 → horner r 39 < 2 ^ 63
horner_below_two r h = lt_of_le_of_lt (horner_mono h 39) sum_below_two

pub horner_from_one : (r : ℕ) → 2 ^ 62 ≤ horner r 39
unfolding horner coefficient factorial
horner_from_one r = le-add_right (2 ^ 62) (r * horner r 38 / 2 ^ 64)

horner_not_above : (p q r d : ℕ) → d < 40 → r * q ≤ p * 2 ^ 64 → horner r d * (factorial 39 * q ^ d) ≤ 2 ^ 62 * last_terms p q d
unfolding last_terms horner factorial
horner_not_above p q r zero hd hr = rw (pow-zero q) (lit≤ tt)
horner_not_above p q r (suc d) hd hr =
    rw (pow-succ' q d)
    (step_not_above (2 ^ 64) (factorial 39) (2 ^ 62) (share (38 - d)) (coefficient (38 - d)) p q r (horner r d) (last_terms p q d) (q ^ d)
    (r * horner r d / 2 ^ 64) (lit< tt)
    (coefficient_not_above (38 - d) (omega arith)) hr (horner_not_above p q r d (omega arith) hr)
    (div-mul-le_self (r * horner r d) (2 ^ 64)))

-- r is at most 3 units of 2^-64 too small, which a sum below 2^63 turns into at most 2 of its units; each step cuts 2 more
horner_not_below : (p q r d : ℕ) → d < 40 → p * 2 ^ 64 ≤ (r + 3) * q → p ≤ q → r ≤ third_in64
    → 2 ^ 62 * last_terms p q d ≤ (horner r d + (1 + d * 4)) * (factorial 39 * q ^ d)
unfolding last_terms horner factorial
horner_not_below p q r zero hd hr hpq hm = rw (pow-zero q) (lit≤ tt)
horner_not_below p q r (suc d) hd hr hpq hm =
    rw (pow-succ' q d, grow)
    (step_not_below (2 ^ 64) (factorial 39) (2 ^ 62) (share (38 - d)) (coefficient (38 - d)) p q r (horner r d) (last_terms p q d) (q ^ d)
    (r * horner r d / 2 ^ 64) 3 2 (1 + d * 4) (lit< tt)
    (coefficient_not_below (38 - d) (omega arith)) hr hpq (two (horner r d) (horner-most r d (omega arith) (omega arith)))
    (le_of_lt (lt-div-mul-add {a = r * horner r d} {b = 2 ^ 64} (lit< tt))) (horner_not_below p q r d (omega arith) hr hpq hm))
  where
    grow : 1 + suc d * 4 ≡ (1 + d * 4) + (2 + 2)
    grow = omega arith

    two : (v : ℕ) → v ≤ 2 ^ 63 + 1024 → 3 * v ≤ 2 ^ 64 * 2
    two v h = omega arith

-- the exact sum is at least its first term
from_one : (p q : ℕ) → factorial 39 * q ^ 39 ≤ last_terms p q 39
unfolding last_terms share factorial
from_one p q = le-add_right (factorial 39 * q ^ 39) (p * last_terms p q 38)

-- ---- the rounded sum

-- within 2^-44: 157 units of 39 steps and 512 of the rounding are far less than the 262144 that 2^-44 allows
pub rounded : (p q r : ℕ) → r * q ≤ p * 2 ^ 64 → p * 2 ^ 64 ≤ (r + 3) * q → p ≤ q → r ≤ third_in64
    → Within (2 ^ 44 * ((horner r 39 + 512) / 1024 * 1024 * (factorial 39 * q ^ 39))) (2 ^ 44 * (2 ^ 62 * last_terms p q 39))
    (2 ^ 62 * last_terms p q 39)
rounded p q r h₁ h₂ hpq hm =
    go (horner r 39) (last_terms p q 39) (factorial 39 * q ^ 39) (horner_not_above p q r 39 (lit< tt) h₁)
    (horner_not_below p q r 39 (lit< tt) h₂ hpq hm) (from_one p q)
  where
    go :
        (v t u : ℕ) → v * u ≤ 2 ^ 62 * t → 2 ^ 62 * t ≤ (v + 157) * u → u ≤ t
        → Within (2 ^ 44 * ((v + 512) / 1024 * 1024 * u)) (2 ^ 44 * (2 ^ 62 * t)) (2 ^ 62 * t)
    go v t u a b e =
        let n : ℕ = (v + 512) / 1024 * 1024 in
        let n≤ : n ≤ v + 512 = omega arith in
        let ≤n : v ≤ n + 511 = omega arith in
        let nu : n * u ≤ v * u + 512 * u = le_trans (mul-le-mul_right u n≤) (le_of_eq (add-mul v 512 u)) in
        let un : v * u ≤ n * u + 511 * u = le_trans (mul-le-mul_right u ≤n) (le_of_eq (add-mul n 511 u)) in
        let b' : 2 ^ 62 * t ≤ v * u + 157 * u = le_trans b (le_of_eq (add-mul v 157 u)) in
        record { not-above = omega arith; not-below = omega arith }
