-- A fraction a / b, rounded to the nearest whole number, is within a half of itself. Nothing here is about floats. Assumes nothing.
use mathlib.Core.Path.{subst}
use Prim.Native.Nat.{ℕ, ◌+◌, ◌*◌, ◌/◌, ◌%◌, ◌≤◌, ◌<◌, compare, Ordering}
use native.Mathlib.Nat.{div-add-mod', mod-lt, mul-le-mul_right}
use native.Mathlib.Omega.{arith}
use lib.Ieee.{nearest}
use lib.Ieee.Nearest.{closest}
use Rattle.rounding.specs.Within.{Within}
use Rattle.rounding.proofs.Compared.{Side, side}

-- the quotient w with the remainder r
nearest_half : (w r b : ℕ) (o : Ordering) → r < b → Side o (r * 2) b → Within (2 * (nearest w o * b)) (2 * (w * b + r)) b
nearest_half w r b Ordering.lt hr h = record { not-above = omega arith; not-below = omega arith }
nearest_half w r b Ordering.eq hr h =
    let t : w % 2 * b ≤ 1 * b = mul-le-mul_right b (omega arith) in
    record { not-above = omega arith; not-below = omega arith }
nearest_half w r b Ordering.gt hr h = record { not-above = omega arith; not-below = omega arith }

-- both sides doubled, so that the half is whole
pub closest_half : (a b : ℕ) → 0 < b → Within (2 * (closest a b * b)) (2 * a) b
closest_half a b B =
    subst (λ (x : ℕ). Within (2 * (closest a b * b)) (2 * x) b) (div-add-mod' a b)
    (nearest_half (a / b) (a % b) b (compare (a % b * 2) b) (mod-lt a B) (side (a % b * 2) b))
