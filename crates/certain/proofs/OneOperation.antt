-- One rounded operation, over plain whole numbers: within 2^-53 of itself and half a unit, it is at most twice its exact value, and at
-- least 7/8 of one that is not tiny. Assumes nothing.
use Prim.Native.Nat.{ℕ, ◌+◌, ◌*◌, ◌^◌, ◌≤◌}
use native.Mathlib.Omega.{arith}

pub sum-most : (g n : ℕ) → g * 2 ^ 53 ≤ n * 2 ^ 53 + (n + 2 ^ 52) → g ≤ 2 * n + 1
sum-most g n h = omega arith

pub sum-least : (g n : ℕ) → 8 ≤ n → n * 2 ^ 53 ≤ g * 2 ^ 53 + (n + 2 ^ 52) → 7 * n ≤ 8 * g
sum-least g n l h = omega arith

-- x is the product's exact value, in units of U
pub product_most : (g U x : ℕ) → g * U * 2 ^ 53 ≤ x * 2 ^ 53 + (x + 2 ^ 52 * U) → g * U ≤ 2 * x + U
product_most g U x h = go (g * U) h
  where
    go : (y : ℕ) → y * 2 ^ 53 ≤ x * 2 ^ 53 + (x + 2 ^ 52 * U) → y ≤ 2 * x + U
    go y h = omega arith

pub product_least : (g U x : ℕ) → 8 * U ≤ x → x * 2 ^ 53 ≤ g * U * 2 ^ 53 + (x + 2 ^ 52 * U) → 7 * x ≤ 8 * (g * U)
product_least g U x l h = go (g * U) h
  where
    go : (y : ℕ) → x * 2 ^ 53 ≤ y * 2 ^ 53 + (x + 2 ^ 52 * U) → 7 * x ≤ 8 * y
    go y h = omega arith
