-- A product with a factor below 1 shrinks, though it is rounded: in units, by the factor and 2^-p at most. Assumes nothing.
use mathlib.Core.Path.{◌≡◌, sym, ap, ◌∙◌, subst}
use Prim.Native.Nat.{ℕ, ◌+◌, ◌-◌, ◌*◌, ◌^◌, ◌≤◌, ◌<◌}
use native.Mathlib.Nat.{le_trans, le_of_eq, lt_of_le_of_lt, mul_comm, mul_assoc, mul_left_comm, mul_right_comm, mul-le-mul}
use native.Mathlib.Nat.{mul-le-mul_right, mul-le-mul_left, le_of_mul-le-mul_right, mul-pos}
use native.Mathlib.Omega.{arith}
use mathlib.Core.Bool.{false}
use lib.Dec.{T}
use lib.Pow.{pow_pos}
use lib.Ieee.{Float, Format, prec, low, mul, round}
use lib.Ieee.Fits.{two, two-le_pos}
use lib.Ieee.Scale.{grid, overflow, round_val}
use lib.Ieee.Positive.{num, den, den_pos, positive, own_value, mul_at}
use Rattle.rounding.specs.Units.{IsUnits}
use Rattle.rounding.proofs.Relative.{kept_shrinks}

-- z is a product of something of at most M units with a factor of at most s / t
pub record Shrunk (f : Format) (z : Float) (M s t : ℕ) : Type 0 where
  pub units : ℕ
  pub is : IsUnits f z units
  pub small : units * (t * 2 ^ prec f) ≤ M * (s * 2 ^ prec f + t)
  pub under : units ≤ M

-- The factor y is below 1 by enough that the rounding cannot undo it. M is in the normal range; x need not be.
pub mul_shrinks :
    (f : Format) (x y : Float) (a M s t : ℕ) → T (positive x) → T (positive y) → IsUnits f x a → 0 < t → num y * t ≤ s * den y
    → s * 2 ^ prec f + t ≤ t * 2 ^ prec f
    → a ≤ M → 2 ^ (prec f - 1) ≤ M → M < overflow f → Shrunk f (mul f x y) M s t
mul_shrinks f x y a M s t p q v Tp h st aM normal over =
    let P = 2 ^ low f in
    let b = num y in
    let d = den y in
    let g = grid f (a * b) (P * d) in
    let D : 0 < P * d = mul-pos (pow_pos (low f)) (den_pos y) in
    let is : mul f x y ≡ round f false (a * b) (P * d) = mul_at f x y a P b d p q (pow_pos (low f)) (den_pos y) v (own_value y q) in
    let s≤t : s ≤ t = le_of_mul-le-mul_right (le_trans (le-add s (2 ^ prec f) t) st) (pow_pos (prec f)) in
    let b≤d : b ≤ d = le_of_mul-le-mul_right (le_trans h (le_trans (mul-le-mul_right d s≤t) (le_of_eq (mul_comm t d)))) Tp in
    let n≤N : a * b * P ≤ M * (P * d) = le_trans (mul-le-mul_right P (mul-le-mul aM b≤d))
    (le_of_eq (mul_assoc M d P ∙ ap (λ (z : ℕ). M * z) (mul_comm d P))) in
    let n≤Ns : a * b * P * t ≤ M * (P * d) * s =
    le_trans (le_of_eq (simp (mul_assoc, mul_comm, mul_left_comm)))
    (le_trans (mul-le-mul_right P (mul-le-mul aM h)) (le_of_eq (simp (mul_assoc, mul_comm, mul_left_comm)))) in
    let k = kept_shrinks (prec f) (a * b * P) (P * d) (M * (P * d)) s t (two-le_pos (prec f) (two f)) D n≤N n≤Ns
    (mul-le-mul_right (P * d) normal) in
    let small : g * (t * 2 ^ prec f) ≤ M * (s * 2 ^ prec f + t) =
    le_of_mul-le-mul_right (le_trans k (le_of_eq (mul_right_comm M (P * d) (s * 2 ^ prec f + t)))) D in
    let under : g ≤ M = le_of_mul-le-mul_right (le_trans small (mul-le-mul_left M st)) (mul-pos Tp (pow_pos (prec f))) in
    record {
      units = g;
      is = subst (λ (z : Float). IsUnits f z g) (sym is) (round_val f (a * b) (P * d) (lt_of_le_of_lt under over));
      small = small;
      under = under;
    }
  where
    le-add : (s p t : ℕ) → s * p ≤ s * p + t
    le-add s p t = omega arith
