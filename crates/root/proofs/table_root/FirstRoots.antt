-- The first root, m times v: its square is not above, what is left is below 2^48 square units, and v is near to 1 over twice the root.
-- Assumes nothing.
use mathlib.Core.Path.{◌≡◌, refl, sym, subst}
use Prim.Native.Nat.{ℕ, ◌+◌, ◌-◌, ◌*◌, ◌/◌, ◌^◌, ◌≤◌, ◌<◌}
use native.Mathlib.Nat.{le_trans, le_of_eq, mul-le-mul, mul-le-mul_left, mul-le-mul_right, le_of_mul-le-mul_right}
use native.Mathlib.Omega.{arith}
use lib.Dec.{leb→le}
use Rattle.arith.proofs.Squares.{lt_of_squares}
use Rattle.root.proofs.table_root.Corrections.{Near}
use Rattle.root.proofs.table_root.Reciprocals.{Reciprocal}

module _ (m v : ℕ) (lo : 2 ^ 52 ≤ m) (hi : m < 2 ^ 54) (k : Reciprocal m v) where
  abbrev x : ℕ
  x = m / 2 ^ 28

  abbrev r : ℕ
  r = x * v / 2 ^ 25

  -- x v² is at most 1
  times_square : x * (v * v) ≤ 2 ^ 86
  times_square =
      le_of_mul-le-mul_right {k = 2 ^ 28} (le_trans (go x (v * v) (mul-le-mul_right (v * v) whole)) k.under) (leb→le _ _ tt)
    where
      whole : x * 2 ^ 28 ≤ m
      whole = omega arith

      go : (x a : ℕ) → x * 2 ^ 28 * a ≤ m * a → x * a * 2 ^ 28 ≤ m * a
      go x a h = omega arith

  down : r * 2 ^ 25 ≤ x * v
  down = omega arith

  up : x * v ≤ r * 2 ^ 25 + 2 ^ 25
  up = omega arith

  pub square : r * r ≤ m * 2 ^ 8
  square =
      le_trans
      (le_of_mul-le-mul_right {k = 2 ^ 50} (go x r v (mul-le-mul down down) (mul-le-mul_left x times_square)) (leb→le _ _ tt))
      (omega arith)
    where
      go :
          (x r v : ℕ) → r * 2 ^ 25 * (r * 2 ^ 25) ≤ x * v * (x * v) → x * (x * (v * v)) ≤ x * 2 ^ 86
          → r * r * 2 ^ 50 ≤ x * 2 ^ 36 * 2 ^ 50
      go x r v h l = omega arith

  -- r v is near to a half, in units of 2^-62
  product : 2 ^ 61 ≤ r * v + 387 * 2 ^ 38
  product = go x r v (mul-le-mul_right v up) (mul-le-mul k.most k.most) (mul-le-mul_left (2 ^ 25) k.most) k.near
    where
      go :
          (x r v : ℕ) → x * v * v ≤ (r * 2 ^ 25 + 2 ^ 25) * v → v * v ≤ 2 ^ 31 * 2 ^ 31 → 2 ^ 25 * v ≤ 2 ^ 25 * 2 ^ 31
          → 2 ^ 86 ≤ (x + 1) * (v * v) + 386 * 2 ^ 63 → 2 ^ 61 ≤ r * v + 387 * 2 ^ 38
      go x r v a b c d = omega arith

  pub rest_lt : m * 2 ^ 8 - r * r < 2 ^ 48
  rest_lt = go x r v (omega arith) (omega arith) short (mul-le-mul_left r up) (mul-le-mul_left x product)
    where
      short : r < 2 ^ 31
      short = lt_of_squares (m * 2 ^ 8) r (2 ^ 31) square (omega arith)

      go :
          (x r v : ℕ) → m < x * 2 ^ 28 + 2 ^ 28 → x < 2 ^ 26 → r < 2 ^ 31 → r * (x * v) ≤ r * (r * 2 ^ 25 + 2 ^ 25)
          → x * 2 ^ 61 ≤ x * (r * v + 387 * 2 ^ 38) → m * 2 ^ 8 - r * r < 2 ^ 48
      go x r v a b c d e = omega arith

  pub first_near : Near r (m * 2 ^ 8 - r * r) v (2 ^ 62)
  first_near = record { under = under; near = omega (arith, product) }
    where
      whole : r * r + (m * 2 ^ 8 - r * r) ≡ m * 2 ^ 8
      whole = omega (arith, square)

      shape : (m a : ℕ) → 4 * (m * 2 ^ 8 * a) ≡ 2 ^ 10 * (m * a)
      shape m a = omega arith

      under : 4 * ((r * r + (m * 2 ^ 8 - r * r)) * (v * v)) ≤ 2 ^ 62 * 2 ^ 62
      under =
          subst (λ (a : ℕ). 4 * (a * (v * v)) ≤ 2 ^ 62 * 2 ^ 62) (sym whole)
          (le_trans (le_of_eq (shape m (v * v))) (le_trans (mul-le-mul_left (2 ^ 10) k.under) (leb→le _ _ tt)))

  pub not_small : 2 ^ 29 ≤ r
  not_small = go (r * v) (le_trans (mul-le-mul_left r k.most) (le_of_eq refl)) product
    where
      go : (a : ℕ) → a ≤ r * 2 ^ 31 → 2 ^ 61 ≤ a + 387 * 2 ^ 38 → 2 ^ 29 ≤ r
      go a h l = omega arith
