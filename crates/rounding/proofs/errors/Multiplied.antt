-- The error of a product: x·y of a/U and b/U is a·b/U², within 2^-p of itself and half a unit. Either sign. Assumes nothing.
use mathlib.Core.Path.{◌≡◌, sym, ap₂, ◌∙◌, subst}
use mathlib.Core.Bool.{Bool}
use Prim.Native.Nat.{ℕ, ◌+◌, ◌-◌, ◌*◌, ◌^◌, ◌≤◌, ◌<◌}
use native.Mathlib.Nat.{mul-pos, mul-mul-mul_comm, le_of_mul-le-mul_right}
use native.Mathlib.Omega.{arith}
use lib.Pow.{pow_pos}
use lib.Ieee.{Float, nan, inf, fin, Format, prec, emax, low, up, down, unlike, round, mul}
use lib.Ieee.Fits.{down_pos}
use lib.Ieee.Scale.{round_same}
use Rattle.rounding.specs.Within.{Within}
use Rattle.rounding.specs.errors.Errors.{InUnits, Rounded}
use Rattle.rounding.proofs.errors.Rounded.{rounded_near}

-- the product is rounded from a b / U²
mul_is :
    (f : Format) (x y : Float) (s t : Bool) (a b : ℕ) → InUnits f x s a → InUnits f y t b
    → mul f x y ≡ round f (unlike s t) (a * b) (2 ^ low f * 2 ^ low f)
unfolding mul
mul_is f nan y s t a b h k = absurd h
mul_is f (inf i) y s t a b h k = absurd h
mul_is f (fin i m e) nan s t a b h k = absurd k
mul_is f (fin i m e) (inf j) s t a b h k = absurd k
mul_is f (fin i m e) (fin j n d) s t a b h k =
    ap₂ (λ (u v : Bool). round f (unlike u v) (m * up e * (n * up d)) (down e * down d)) h.0 k.0
    ∙ round_same f (unlike s t) (m * up e * (n * up d)) (down e * down d) (a * b) (2 ^ low f * 2 ^ low f)
    (mul-pos (down_pos e) (down_pos d)) (mul-pos (pow_pos (low f)) (pow_pos (low f)))
    (mul-mul-mul_comm (m * up e) (n * up d) (2 ^ low f) (2 ^ low f) ∙ ap₂ ◌*◌ h.1 k.1 ∙ mul-mul-mul_comm a (down e) b (down d))

-- the product's units times U: a b, but for the error
pub record Multiplied (f : Format) (r : Float) (s : Bool) (a b : ℕ) : Type 0 where
  pub units : ℕ
  pub is : InUnits f r s units
  pub near : Within (units * 2 ^ low f * 2 ^ prec f) (a * b * 2 ^ prec f) (a * b + 2 ^ (prec f - 1) * 2 ^ low f)

pub mul_near :
    (f : Format) (x y : Float) (s t : Bool) (a b : ℕ) → InUnits f x s a → InUnits f y t b → a * b ≤ 2 ^ emax f * (2 ^ low f * 2 ^ low f)
    → Multiplied f (mul f x y) (unlike s t) a b
mul_near f x y s t a b h k l =
    let r : Rounded f (round f (unlike s t) (a * b) (2 ^ low f * 2 ^ low f)) (unlike s t) (a * b) (2 ^ low f * 2 ^ low f) =
    rounded_near f (unlike s t) (a * b) (2 ^ low f * 2 ^ low f) (mul-pos (pow_pos (low f)) (pow_pos (low f))) l in
    record {
      units = r.units;
      is = subst (λ (z : Float). InUnits f z (unlike s t) r.units) (sym (mul_is f x y s t a b h k)) r.is;
      near = divided r.units (2 ^ low f) (2 ^ prec f) (a * b) (2 ^ (prec f - 1)) (pow_pos (low f)) r.near;
    }
  where
    divided : (g U P n H : ℕ) → 0 < U → Within (g * (U * U) * P) (n * U * P) (n * U + H * (U * U)) → Within (g * U * P) (n * P) (n + H * U)
    divided g U P n H pU w = record {
      not-above = le_of_mul-le-mul_right {k = U} (omega (arith, w.not-above)) pU;
      not-below = le_of_mul-le-mul_right {k = U} (omega (arith, w.not-below)) pU;
    }
