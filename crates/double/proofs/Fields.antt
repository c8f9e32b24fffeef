-- From a bit pattern to its fields, from the fields to the size in units of 2^-1074, and back. Assumes nothing.
-- In order: `of_bits_is`, the ranges of the fields, `low_value`, `mid-value` and both as `mag-value`, that a number has one sign and one
-- size, `measured` and `read`.
use mathlib.Core.Path.{◌≡◌, sym, ap, subst, ◌∙◌}
use mathlib.Core.Bool.{Bool, true, false, cond}
use Prim.Native.Nat.{ℕ, zero, suc, ◌+◌, ◌*◌, ◌/◌, ◌^◌, ◌<◌}
use native.Mathlib.Nat.{mul-one, mod-lt, eq_of_mul-eq-mul_right}
use native.Mathlib.Decide.{dec_lt}
use native.Mathlib.Omega.{arith}
use borrow.Author.Tests.{ne_eqb}
use lib.Dec.{T, eqb}
use lib.Pow.{pow_pos, field}
use lib.Ieee.{Float, nan, inf, fin, binary64, odd, fits, of_fields, of_bits, to_bits, down}
use lib.Ieee.Bits.{of_bits-to_bits}
use lib.Ieee.Exact.{HasValue, odd_sign}
use lib.Ieee.Fits.{down_pos}
use lib.Ieee.Scale.{finite}
use Rattle.double.specs.Fields.{sign_of, field_of, digits_of, Sized, mag}

pub of_bits_is : (b : ℕ) → of_bits binary64 b ≡ of_fields binary64 (sign_of b) (field_of b) (digits_of b)
unfolding of_bits
of_bits_is b = ap (λ (f : ℕ). of_fields binary64 (sign_of b) f (digits_of b)) (field b 11 52)

-- a double by the fields of its pattern
pub by_fields :
    (x : Float) → T (fits binary64 x)
    → of_fields binary64 (sign_of (to_bits binary64 x)) (field_of (to_bits binary64 x)) (digits_of (to_bits binary64 x)) ≡ x
by_fields x F = sym (of_bits_is (to_bits binary64 x)) ∙ of_bits-to_bits binary64 x F

pub field_lt : (b : ℕ) → field_of b < 2048
field_lt b = mod-lt (b / 2 ^ 52) (pow_pos 11)

pub digits_lt : (b : ℕ) → digits_of b < 2 ^ 52
digits_lt b = mod-lt b (pow_pos 52)

-- the field 0: the digits are the units
pub low_value : (s : Bool) (t : ℕ) → Sized (of_fields binary64 s 0 t) s t
unfolding of_fields
low_value s t = subst (λ (a : ℕ). Sized (odd 53 s t 0 1074) s a) (mul-one t) (odd_sign 53 s t 0 1074)

-- a field from 1 to 2046, here j + 1: the digits under a leading one, times 2^j
pub mid_value : (s : Bool) (j t : ℕ) → j < 2046 → Sized (of_fields binary64 s (suc j) t) s ((2 ^ 52 + t) * 2 ^ j)
unfolding of_fields
mid_value s j t h = rw (ne_eqb (suc j) 2047 (λ (e : suc j ≡ 2047). omega arith)) (odd_sign 53 s (2 ^ 52 + t) j 1074)

pub mag_value : (s : Bool) (f t : ℕ) → f < 2047 → Sized (of_fields binary64 s f t) s (mag f t)
unfolding mag
mag_value s zero t h = low_value s t
mag_value s (suc j) t h = mid_value s j t (omega arith)

-- the field 2047: an infinity or a NaN
top-not_finite : (s : Bool) (t : ℕ) → T (finite (of_fields binary64 s 2047 t)) → ⊥
unfolding of_fields
top-not_finite s t h = go (eqb t 0) h
  where
    go : (b : Bool) → T (finite (cond b (inf s) nan)) → ⊥
    go true k = k
    go false k = k

-- ---- a number has one size and one sign

pub same_units : (x : Float) (s : Bool) (a b : ℕ) → Sized x s a → Sized x s b → a ≡ b
same_units nan s a b h k = absurd h
same_units (inf r) s a b h k = absurd h
same_units (fin r m e) s a b h k = eq_of_mul-eq-mul_right (down e) (down_pos e) a b (sym h.1 ∙ k.1)

pub same_sign : (x : Float) (r s : Bool) (a b : ℕ) → Sized x r a → Sized x s b → r ≡ s
same_sign nan r s a b h k = absurd h
same_sign (inf i) r s a b h k = absurd h
same_sign (fin i m e) r s a b h k = sym h.0 ∙ k.0

-- ---- the fields of a finite double

-- the pattern b tells the sign and the size of x
pub record Measured (x : Float) (b : ℕ) : Type 0 where
  pub field : field_of b < 2047
  pub is : Sized x (sign_of b) (mag (field_of b) (digits_of b))

pub measured : (x : Float) → T (fits binary64 x) → T (finite x) → Measured x (to_bits binary64 x)
measured x F h = go (dec_lt f 2047)
  where
    b : ℕ
    b = to_bits binary64 x

    f : ℕ
    f = field_of b

    is-top : f < 2048 → (f < 2047 → ⊥) → f ≡ 2047
    is-top l k = omega arith

    go : Dec (f < 2047) → Measured x b
    go (yes l) =
        record {
          field = l;
          is = subst (λ (y : Float). Sized y (sign_of b) (mag f (digits_of b))) (by_fields x F)
              (mag_value (sign_of b) f (digits_of b) l);
        }
    go (no k) =
        absurd (top-not_finite (sign_of b) (digits_of b)
        (subst (λ (y : Float). T (finite y)) (sym (by_fields x F) ∙ ap (λ (g : ℕ). of_fields binary64 (sign_of b) g (digits_of b)) (is-top
        (field_lt b) k)) h))

-- the fields that a double of the sign s and n units must have
pub record Read (s : Bool) (n b : ℕ) : Type 0 where
  pub sign : sign_of b ≡ s
  pub field : field_of b < 2047
  pub size : n ≡ mag (field_of b) (digits_of b)

pub finite_of_value : (x : Float) (s : Bool) (a c : ℕ) → HasValue x s a c → T (finite x)
finite_of_value nan s a c h = absurd h
finite_of_value (inf r) s a c h = absurd h
finite_of_value (fin r m e) s a c h = tt

pub read : (x : Float) (s : Bool) (n : ℕ) → T (fits binary64 x) → Sized x s n → Read s n (to_bits binary64 x)
read x s n F h =
    let b = to_bits binary64 x in
    let m = measured x F (finite_of_value x s n (2 ^ 1074) h) in
    let e = same_sign x (sign_of b) s (mag (field_of b) (digits_of b)) n m.is h in
    record {
      sign = e;
      field = m.field;
      size = same_units x s n (mag (field_of b) (digits_of b)) h
          (subst (λ (r : Bool). Sized x r (mag (field_of b) (digits_of b))) e m.is);
    }
