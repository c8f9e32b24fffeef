-- log_of by cases: of NaN, of zero and below, of +infinity, and of a positive finite double. Assumes nothing.
use Rattle.std.proofs.Common.{◌≡◌, ℕ, zero, suc, ◌+◌, ◌^◌, ◌<◌, ◌≤◌, Bool, true, false, cond, sym, refl, ap, ◌∙◌, le_of_eq, not-suc-le-zero, arith, le-ltb, lt-ltb, eq-eqb, ne_eqb}
use lib.Count.{count_trailing_zeros}
use lib.Ieee.{Float, nan, inf, binary64, neg, div, is_nan, of_bits, of_fields, odd, to_bits}
use Rattle.double.specs.Fields.{sign_of, field_of, digits_of, mag, normal_of}
use Rattle.logarithm.specs.Steps.{positive_of, by_field_of, log_of}

-- ---- the literals of `log`

pub minus_infinity : div binary64 (neg (of_bits binary64 4607182418800017408)) (of_bits binary64 0) ≡ inf true
unfolding div neg of_bits of_fields odd count_trailing_zeros
minus_infinity = refl

pub infinity : div binary64 (of_bits binary64 4607182418800017408) (of_bits binary64 0) ≡ inf false
unfolding div of_bits of_fields odd count_trailing_zeros
infinity = refl

-- ---- by the field

pub field_of-zero : (f t : ℕ) → f ≡ 0 → t ≡ 0 → inf true ≡ by_field_of f t
unfolding by_field_of
field_of-zero zero t e z = rw (eq-eqb t 0 z)
field_of-zero (suc f) t e z = absurd (not-suc-le-zero (le_of_eq e))

pub field_low : (f t : ℕ) (r : Float) → f ≡ 0 → (t ≡ 0 → ⊥) → r ≡ positive_of (normal_of 0 t).m (normal_of 0 t).k → r ≡ by_field_of f t
unfolding by_field_of
field_low zero t r e n k = rw (ne_eqb t 0 n) k
field_low (suc f) t r e n k = absurd (not-suc-le-zero (le_of_eq e))

pub field_mid : (f t : ℕ) (r : Float) → 1 ≤ f → f < 2047 → r ≡ positive_of (2 ^ 52 + t) (f + 51) → r ≡ by_field_of f t
unfolding by_field_of normal_of
field_mid zero t r a h k = absurd (not-suc-le-zero a)
field_mid (suc f) t r a h k = rw (lt-ltb (suc f) 2047 h) k

pub field_top : (f t : ℕ) → 2047 ≤ f → inf false ≡ by_field_of f t
unfolding by_field_of
field_top zero t h = absurd (not-suc-le-zero h)
field_top (suc f) t h = rw (le-ltb (suc f) 2047 h)

-- a positive finite double's
pub field_positive : (f t : ℕ) → f < 2047 → 0 < mag f t → by_field_of f t ≡ positive_of (normal_of f t).m (normal_of f t).k
unfolding by_field_of mag
field_positive zero t h p =
    ap (λ (b : Bool). cond b (inf true) (positive_of (normal_of 0 t).m (normal_of 0 t).k)) (ne_eqb t 0 (λ (e : t ≡ 0). omega arith))
field_positive (suc j) t h p =
    ap (λ (b : Bool). cond b (positive_of (normal_of (suc j) t).m (normal_of (suc j) t).k) (inf false)) (lt-ltb (suc j) 2047 h)

-- ---- by the double

pub log_of_nan : (x r : Float) → x ≡ nan → r ≡ nan → r ≡ log_of x
unfolding log_of is_nan
log_of_nan x r e k = k ∙ ap log_of (sym e)

pub log-signed : (x r : Float) → is_nan x ≡ false → sign_of (to_bits binary64 x) ≡ true → r ≡ inf true → r ≡ log_of x
unfolding log_of
log-signed x r n s k = rw (n, s) k

pub log-unsigned :
    (x r : Float) → is_nan x ≡ false → sign_of (to_bits binary64 x) ≡ false → r
    ≡ by_field_of (field_of (to_bits binary64 x)) (digits_of (to_bits binary64 x))
    → r ≡ log_of x
unfolding log_of
log-unsigned x r n s k = rw (n, s) k
