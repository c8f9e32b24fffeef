-- The error of a quotient in the normal range: x/y of a/U and b/U is a/b, within 2^-p of itself. Either sign. Assumes nothing.
use mathlib.Core.Path.{◌≡◌, sym, ap, ap₂, ◌∙◌, subst}
use mathlib.Core.Bool.{Bool, cond}
use Prim.Native.Nat.{ℕ, zero, suc, ◌-◌, ◌*◌, ◌^◌, ◌≤◌, ◌<◌}
use native.Mathlib.Nat.{mul-pos, zero-mul, eq_of_mul-eq-mul_right}
use native.Mathlib.Omega.{arith}
use lib.IntN.{ℤ}
use lib.Dec.{eqb}
use lib.Pow.{pow_pos}
use lib.Ieee.{Float, nan, inf, fin, Format, prec, emax, low, up, down, unlike, round, div}
use lib.Ieee.Fits.{down_pos}
use lib.Ieee.Scale.{grid, round_same}
use borrow.Author.Tests.{ne_eqb}
use Rattle.rounding.specs.Within.{Within}
use Rattle.rounding.specs.errors.Errors.{InUnits}
use Rattle.rounding.proofs.errors.Rounded.{round_value, grid_under, normal_near}

no_zero : (n : ℕ) (d : ℤ) (b U : ℕ) → 0 < b → n * up d * U ≡ b * down d → n ≡ 0 → ⊥
no_zero n d b U pb h z =
    none (b * down d) (mul-pos pb (down_pos d))
    (sym h ∙ ap (λ (t : ℕ). t * up d * U) z ∙ ap (λ (t : ℕ). t * U) (zero-mul (up d)) ∙ zero-mul U)
  where
    none : (x : ℕ) → 0 < x → x ≡ 0 → ⊥
    none x p e = omega arith

cross : (m u n v U a b D E : ℕ) → m * u * U ≡ a * D → n * v * U ≡ b * E → 0 < U → m * u * E * b ≡ a * (n * v * D)
cross m u n v U a b D E h k pU = go (m * u) (n * v) h k
  where
    go : (X Y : ℕ) → X * U ≡ a * D → Y * U ≡ b * E → X * E * b ≡ a * (Y * D)
    go X Y h k = eq_of_mul-eq-mul_right U pU (X * E * b) (a * (Y * D)) (first X ∙ ap₂ ◌*◌ h (sym k) ∙ last Y)
      where
        first : (X : ℕ) → X * E * b * U ≡ X * U * (b * E)
        first X = omega arith

        last : (Y : ℕ) → a * D * (Y * U) ≡ a * (Y * D) * U
        last Y = omega arith

-- the quotient is rounded from a / b
pub div_is :
    (f : Format) (x y : Float) (s t : Bool) (a b : ℕ) → 0 < b → InUnits f x s a → InUnits f y t b → div f x y ≡ round f (unlike s t) a b
unfolding div
div_is f nan y s t a b pb h k = absurd h
div_is f (inf i) y s t a b pb h k = absurd h
div_is f (fin i m e) nan s t a b pb h k = absurd k
div_is f (fin i m e) (inf j) s t a b pb h k = absurd k
div_is f (fin i m e) (fin j n d) s t a b pb h k =
    ap (λ (z : Bool). cond z (cond (eqb m 0) nan (inf (unlike i j))) (round f (unlike i j) (m * up e * down d) (n * up d * down e)))
    (ne_eqb n 0 (no_zero n d b (2 ^ low f) pb k.1))
    ∙ ap₂ (λ (u v : Bool). round f (unlike u v) (m * up e * down d) (n * up d * down e)) h.0 k.0
    ∙ round_same f (unlike s t) (m * up e * down d) (n * up d * down e) a b
    (mul-pos (first_pos n (up d) b (2 ^ low f) (down d) pb (down_pos d) k.1) (down_pos e)) pb
    (cross m (up e) n (up d) (2 ^ low f) a b (down e) (down d) h.1 k.1 (pow_pos (low f)))
  where
    first_pos : (n u b U D : ℕ) → 0 < b → 0 < D → n * u * U ≡ b * D → 0 < n * u
    first_pos n u b U D pb pD e = go (n * u) e
      where
        go : (X : ℕ) → X * U ≡ b * D → 0 < X
        go zero e = absurd (none (b * D) (mul-pos pb pD) (sym e ∙ zero-mul U))
          where
            none : (x : ℕ) → 0 < x → x ≡ 0 → ⊥
            none x p e = omega arith
        go (suc X) e = omega arith

pub record Divided (f : Format) (r : Float) (s : Bool) (a b : ℕ) : Type 0 where
  pub units : ℕ
  pub is : InUnits f r s units
  pub near : Within (units * b * 2 ^ prec f) (a * 2 ^ low f * 2 ^ prec f) (a * 2 ^ low f)

pub div_near :
    (f : Format) (x y : Float) (s t : Bool) (a b : ℕ) → 0 < b → InUnits f x s a → InUnits f y t b → a ≤ 2 ^ emax f * b
    → 2 ^ (prec f - 1) * b ≤ a * 2 ^ low f
    → Divided f (div f x y) (unlike s t) a b
div_near f x y s t a b pb h k most least = record {
  units = grid f a b;
  is =
      subst (λ (z : Float). InUnits f z (unlike s t) (grid f a b)) (sym (div_is f x y s t a b pb h k))
      (round_value f (unlike s t) a b (grid_under f a b pb most));
  near = normal_near f a b pb least;
}
