-- The classes of a double by its exponent field, 0, 1 to 2046, or 2047, and what a double of each class is. Assumes nothing.
use mathlib.Core.Path.{◌≡◌, refl, subst}
use mathlib.Core.Bool.{Bool, true, false, cond}
use Prim.Native.Nat.{ℕ, zero, suc, ◌+◌, ◌*◌, ◌^◌, ◌<◌}
use native.Mathlib.Decide.{dec_lt}
use native.Mathlib.Omega.{arith}
use lib.Dec.{T, eqb}
use lib.Ieee.{Float, nan, inf, binary64, fits, of_fields, to_bits}
use Rattle.double.specs.Fields.{sign_of, field_of, digits_of, Sized}
use Rattle.double.proofs.Fields.{by_fields, field_lt, low_value, mid_value}

-- the double x with the sign s, the field f and the digits t
pub data Class (x : Float) (s : Bool) (f t : ℕ) : Type 0 where
  low : f ≡ 0 → Sized x s t → Class x s f t
  mid : (j : ℕ) → f ≡ suc j → j < 2046 → Sized x s ((2 ^ 52 + t) * 2 ^ j) → Class x s f t
  infinite : f ≡ 2047 → x ≡ inf s → Class x s f t
  no_number : f ≡ 2047 → x ≡ nan → Class x s f t

at_top : (s : Bool) (t : ℕ) → Class (of_fields binary64 s 2047 t) s 2047 t
unfolding of_fields
at_top s t = go (eqb t 0)
  where
    go : (b : Bool) → Class (cond b (inf s) nan) s 2047 t
    go true = infinite refl refl
    go false = no_number refl refl

of_fields_lem : (s : Bool) (f t : ℕ) → f < 2048 → Class (of_fields binary64 s f t) s f t
of_fields_lem s zero t l = low refl (low_value s t)
of_fields_lem s (suc j) t l = go (dec_lt j 2046)
  where
    is-top : j < 2047 → (j < 2046 → ⊥) → 2047 ≡ suc j
    is-top a b = omega arith

    l2 : j < 2047
    l2 = omega arith

    go : Dec (j < 2046) → Class (of_fields binary64 s (suc j) t) s (suc j) t
    go (yes h) = mid j refl h (mid_value s j t h)
    go (no h) = subst (λ (f : ℕ). Class (of_fields binary64 s f t) s f t) (is-top l2 h) (at_top s t)

pub class :
    (x : Float) → T (fits binary64 x) → Class x (sign_of (to_bits binary64 x)) (field_of (to_bits binary64 x)) (digits_of (to_bits binary64 x))
class x F =
    let b = to_bits binary64 x in
    subst (λ (y : Float). Class y (sign_of b) (field_of b) (digits_of b)) (by_fields x F)
    (of_fields_lem (sign_of b) (field_of b) (digits_of b) (field_lt b))
