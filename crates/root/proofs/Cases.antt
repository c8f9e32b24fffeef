-- The cases of `sqrt_of`, by the tests that lead to them. Assumes nothing.
use mathlib.Core.Path.{◌≡◌, refl, sym, ap, subst}
use mathlib.Core.Bool.{Bool, false, cond}
use Prim.Native.Nat.{ℕ, zero, suc, ◌^◌, ◌≤◌, ◌<◌}
use native.Mathlib.Omega.{arith}
use borrow.Author.Tests.{le-leb, lt-leb, eq-eqb, ne_eqb}
use lib.Ieee.{Float, nan, binary64, is_nan, to_bits}
use Rattle.double.specs.Fields.{field_of, digits_of, mag, normal_of}
use Rattle.root.specs.Steps.{root_of, sqrt_fields, sqrt_bits, sqrt_of}

pub of_nan : (x : Float) → x ≡ nan → nan ≡ sqrt_of x
unfolding sqrt_of is_nan
of_nan x h = subst (λ (y : Float). nan ≡ sqrt_of y) (sym h) refl

pub by_bits : (x : Float) → is_nan x ≡ false → sqrt_of x ≡ sqrt_bits x (to_bits binary64 x)
unfolding sqrt_of
by_bits x h = ap (λ (t : Bool). cond t nan (sqrt_bits x (to_bits binary64 x))) h

module _ (x : Float) (b : ℕ) where
  pub of_minus_zero : 2 ^ 63 ≤ b → b ≡ 2 ^ 63 → sqrt_bits x b ≡ x
  unfolding sqrt_bits
  of_minus_zero s z = simp (le-leb (2 ^ 63) b s, eq-eqb b (2 ^ 63) z)

  pub of_negative : 2 ^ 63 ≤ b → (b ≡ 2 ^ 63 → ⊥) → sqrt_bits x b ≡ nan
  unfolding sqrt_bits
  of_negative s z = simp (le-leb (2 ^ 63) b s, ne_eqb b (2 ^ 63) z)

  pub by_fields : b < 2 ^ 63 → sqrt_bits x b ≡ sqrt_fields x (field_of b) (digits_of b)
  unfolding sqrt_bits
  by_fields s = simp (lt-leb (2 ^ 63) b s)

module _ (x : Float) (f t : ℕ) where
  pub of_zero : f ≡ 0 → t ≡ 0 → sqrt_fields x f t ≡ x
  unfolding sqrt_fields
  of_zero a b = simp (eq-eqb f 0 a, eq-eqb t 0 b)

  pub of_subnormal : f ≡ 0 → (t ≡ 0 → ⊥) → sqrt_fields x f t ≡ root_of (normal_of 0 t)
  unfolding sqrt_fields
  of_subnormal a b = simp (eq-eqb f 0 a, ne_eqb t 0 b)

  pub of_normal : (f ≡ 0 → ⊥) → f ≤ 2046 → sqrt_fields x f t ≡ root_of (normal_of f t)
  unfolding sqrt_fields
  of_normal a b = simp (ne_eqb f 0 a, le-leb f 2046 b)

  pub of_infinity : 2047 ≤ f → sqrt_fields x f t ≡ x
  unfolding sqrt_fields
  of_infinity a = simp (ne_eqb f 0 (λ (e : f ≡ 0). omega arith), lt-leb f 2046 a)

-- every positive finite double, subnormals included
pub of_positive : (x : Float) (f t : ℕ) → f < 2047 → 0 < mag f t → sqrt_fields x f t ≡ root_of (normal_of f t)
unfolding mag
of_positive x zero t h p = of_subnormal x 0 t refl (λ (e : t ≡ 0). omega arith)
of_positive x (suc j) t h p = of_normal x (suc j) t (λ (e : suc j ≡ 0). omega arith) (omega arith)
