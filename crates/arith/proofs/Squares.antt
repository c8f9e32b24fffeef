-- Squares and their order. Not here: the square of a sum or a double, which `omega arith` multiplies out by itself. Assumes nothing.
use mathlib.Core.Path.{◌≡◌, ap}
use Prim.Native.Nat.{ℕ, ◌+◌, ◌-◌, ◌*◌, ◌≤◌, ◌<◌}
use native.Mathlib.Nat.{mul-le-mul, mul-le-mul_left, mul-lt-mul_of_pos_right, lt_of_le_of_lt, lt_of_lt_of_le, lt_irrefl, le_of_lt, le_trans}
use native.Mathlib.Nat.{lt_of_not-le}
use native.Mathlib.Omega.{arith}

-- the odd number below 2 r
pub square_of_odd_below : (r : ℕ) → 0 < r → (2 * r - 1) * (2 * r - 1) + 4 * r ≡ 4 * (r * r) + 1
square_of_odd_below r h =
    let p = 2 * r - 1 in
    let e : p + 1 ≡ 2 * r = omega arith in
    let f : (p + 1) * (p + 1) ≡ 2 * r * (2 * r) = ap (λ (k : ℕ). k * k) e in
    omega arith

pub square_lt : (a b : ℕ) → a < b → a * a < b * b
square_lt a b h = lt_of_le_of_lt (mul-le-mul_left a (le_of_lt h)) (mul-lt-mul_of_pos_right h (omega arith))

-- a number whose square is at most n is below every number whose square is above n
pub lt_of_squares : (n p q : ℕ) → p * p ≤ n → n < q * q → p < q
lt_of_squares n p q a b = lt_of_not-le (λ (g : q ≤ p). lt_irrefl n (lt_of_lt_of_le b (le_trans (mul-le-mul g g) a)))
