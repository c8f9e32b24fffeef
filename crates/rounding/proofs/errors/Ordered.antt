-- `<` on two finite numbers is `<` on their units, whatever their signs. Assumes nothing.
use mathlib.Core.Path.{◌≡◌, sym, ap, ap₂, ◌∙◌, subst}
use mathlib.Core.Bool.{Bool, true, false}
use Prim.Native.Nat.{ℕ, ◌+◌, ◌*◌, ◌^◌, ◌<◌}
use native.Mathlib.Nat.{lt_of_mul-lt-mul_right, mul-lt-mul_of_pos_right, mul-pos, add-mul}
use native.Mathlib.Omega.{arith}
use lib.Dec.{T, ltb→lt}
use lib.Pow.{pow_pos}
use lib.Ieee.{Float, nan, inf, fin, Format, low, up, down, lt}
use lib.Ieee as ieee
use Rattle.rounding.specs.errors.Errors.{above, below, InUnits}

-- two fractions A/D and B/E, of a and b units where U units are 1, over their common denominator
module _ (A B a b D E U : ℕ) (pU : 0 < U) (h : A * U ≡ a * D) (k : B * U ≡ b * E) where
  first : A * E * U ≡ a * (D * E)
  first = go A a D E h
    where
      go : (X x D E : ℕ) → X * U ≡ x * D → X * E * U ≡ x * (D * E)
      go X x D E e = omega (arith, ap (λ (t : ℕ). t * E) e)

  second : B * D * U ≡ b * (D * E)
  second = go B b D E k
    where
      go : (X x D E : ℕ) → X * U ≡ x * E → X * D * U ≡ x * (D * E)
      go X x D E e = omega (arith, ap (λ (t : ℕ). t * D) e)

  units_lt : A * E < B * D → a < b
  units_lt l = lt_of_mul-lt-mul_right (D * E) (rw (← first, ← second) (mul-lt-mul_of_pos_right l pU))

  units_gt : B * D < A * E → b < a
  units_gt l = lt_of_mul-lt-mul_right (D * E) (rw (← first, ← second) (mul-lt-mul_of_pos_right l pU))

  some-units : 0 < A * E + B * D → 0 < a + b
  some-units l =
      positive (a + b) (D * E) (subst (λ (t : ℕ). 0 < t) (add-mul (A * E) (B * D) U ∙ ap₂ ◌+◌ first second ∙ sym (add-mul a b (D * E)))
      (mul-pos l pU))
    where
      positive : (x y : ℕ) → 0 < x * y → 0 < x
      positive x y p = lt_of_mul-lt-mul_right y (omega arith)

  by-signs : (s t : Bool) → T (ieee.below s (A * E) t (B * D)) → above s a + below t b < above t b + below s a
  by-signs false false l = omega (arith, units_lt (ltb→lt _ _ l))
  by-signs false true l = absurd l
  by-signs true false l = omega (arith, some-units (ltb→lt _ _ l))
  by-signs true true l = omega (arith, units_gt (ltb→lt _ _ l))

pub lt_units :
    (f : Format) (x y : Float) (s t : Bool) (a b : ℕ) → InUnits f x s a → InUnits f y t b → T (lt x y)
    → above s a + below t b < above t b + below s a
unfolding lt
lt_units f nan y s t a b h k l = absurd h
lt_units f (inf i) y s t a b h k l = absurd h
lt_units f (fin i m e) nan s t a b h k l = absurd k
lt_units f (fin i m e) (inf j) s t a b h k l = absurd k
lt_units f (fin i m e) (fin j n d) s t a b h k l =
    by-signs (m * up e) (n * up d) a b (down e) (down d) (2 ^ low f) (pow_pos (low f)) h.1 k.1 s t
    (subst (λ (z : Bool). T (ieee.below z (m * up e * down d) t (n * up d * down e))) h.0
    (subst (λ (z : Bool). T (ieee.below i (m * up e * down d) z (n * up d * down e))) k.0 l))
