-- A rounded fraction is within 2^-p of itself and half a unit, as long as it is not too large for its format. Assumes nothing.
use mathlib.Core.Path.{◌≡◌, refl, sym, ap, ◌∙◌, subst}
use mathlib.Core.Bool.{Bool}
use Prim.Native.Nat.{ℕ, suc, ◌+◌, ◌-◌, ◌*◌, ◌^◌, ◌≤◌, ◌<◌}
use native.Mathlib.Nat.{le_refl, le-add_right, le-add_left, mul-pos, mul-le-mul_left, mul-le-mul_right, lt_of_mul-lt-mul_right, pow-suc}
use native.Mathlib.Omega.{arith}
use lib.Dec.{leb→le}
use lib.Pow.{pow-add, pow_pos}
use lib.Ieee.{Float, Format, binary32, binary64, prec, emax, low, round}
use lib.Ieee.Fits.{round_is, two, two-le_pos}
use lib.Ieee.Exact.{HasValue, units_val}
use lib.Ieee.Order.{drop, kept}
use lib.Ieee.Scale.{grid, overflow}
use Rattle.rounding.specs.Within.{Within}
use Rattle.rounding.proofs.Relative.{kept_near}
use Rattle.rounding.specs.errors.Errors.{Rounded}

-- either sign
pub round_value : (f : Format) (s : Bool) (a c : ℕ) → grid f a c < overflow f → HasValue (round f s a c) s (grid f a c) (2 ^ low f)
round_value f s a c h =
    subst (λ (z : Float). HasValue z s (grid f a c) (2 ^ low f)) (sym (round_is f s a c))
    (units_val f s (kept (prec f) (a * 2 ^ low f) c) (drop (prec f) (a * 2 ^ low f) c) h)

pub half_of : (f : Format) → 2 ^ prec f ≡ 2 ^ (prec f - 1) * 2
half_of binary32 = refl
half_of binary64 = refl

half_two : (f : Format) → 2 ≤ 2 ^ (prec f - 1)
half_two binary32 = leb→le _ _ tt
half_two binary64 = leb→le _ _ tt

-- in the normal range or below it
pub grid_near :
    (f : Format) (a c : ℕ) → 0 < c
    → Within (grid f a c * c * 2 ^ prec f) (a * 2 ^ low f * 2 ^ prec f) (a * 2 ^ low f + 2 ^ (prec f - 1) * c)
grid_near f a c pc =
    kept_near (prec f) (a * 2 ^ low f) c (a * 2 ^ low f + 2 ^ (prec f - 1) * c) (two-le_pos (prec f) (two f)) pc (le-add_right _ _)
    (le-add_left _ _)

-- no overflow: K is the fraction's bound in units
under_twice : (g c K P H n : ℕ) → 0 < c → 0 < K → 2 ≤ H → P ≡ H * 2 → n ≤ K * c → g * c * P ≤ n * P + (n + H * c) → g < 2 * K
under_twice g c K P H n pc pK h e m l =
    lt_of_mul-lt-mul_right (c * P)
    (omega (
      arith,
      mul-le-mul_right P m,
      mul-le-mul_left (K * c) h,
      mul-le-mul_right (H * c) pK,
      mul-pos pK pc,
      ap (λ (t : ℕ). K * c * t) e,
    ))

overflow_is : (f : Format) → overflow f ≡ 2 * (2 ^ emax f * 2 ^ low f)
overflow_is f = pow-add 2 (low f) (suc (emax f)) ∙ ap (λ (t : ℕ). 2 ^ low f * t) (pow-suc 2 (emax f)) ∙ regrouped (2 ^ low f) (2 ^ emax f)
  where
    regrouped : (u m : ℕ) → u * (m * 2) ≡ 2 * (m * u)
    regrouped u m = omega arith

pub grid_under : (f : Format) (a c : ℕ) → 0 < c → a ≤ 2 ^ emax f * c → grid f a c < overflow f
grid_under f a c pc h =
    subst (λ (t : ℕ). grid f a c < t) (sym (overflow_is f))
    (under_twice (grid f a c) c (2 ^ emax f * 2 ^ low f) (2 ^ prec f) (2 ^ (prec f - 1)) (a * 2 ^ low f) pc
    (mul-pos (pow_pos (emax f)) (pow_pos (low f))) (half_two f) (half_of f)
    (times (2 ^ low f) a (2 ^ emax f) c h) (grid_near f a c pc).not-above)
  where
    times : (u a m c : ℕ) → a ≤ m * c → a * u ≤ m * u * c
    times u a m c h = omega (arith, mul-le-mul_right u h)

pub rounded_near : (f : Format) (s : Bool) (a c : ℕ) → 0 < c → a ≤ 2 ^ emax f * c → Rounded f (round f s a c) s a c
rounded_near f s a c pc h = record {
  units = grid f a c;
  is = round_value f s a c (grid_under f a c pc h);
  near = grid_near f a c pc;
}

-- with an error that is relative alone, from 2^(p-1) units up
pub normal_near :
    (f : Format) (a c : ℕ) → 0 < c → 2 ^ (prec f - 1) * c ≤ a * 2 ^ low f
    → Within (grid f a c * c * 2 ^ prec f) (a * 2 ^ low f * 2 ^ prec f) (a * 2 ^ low f)
normal_near f a c pc h = kept_near (prec f) (a * 2 ^ low f) c (a * 2 ^ low f) (two-le_pos (prec f) (two f)) pc (le_refl _) h
