-- From a double to its m and k, and from there to L on the double's exact fraction: the bound and the sign of log for every positive finite
-- double. Assumes nothing.
use Rattle.std.proofs.Common.{◌≡◌, ℕ, zero, suc, ◌+◌, ◌-◌, ◌*◌, ◌/◌, ◌^◌, ◌<◌, ◌≤◌, false, T, ℤ, sym, refl, ap, ◌∙◌, subst, le_of_suc-le-suc, mul-pos, lt_of_not-le, zero-mul, mul-one, not-le_of_lt, arith, pow_pos, le-ltb, lt-ltb}
use native.Mathlib.Decide.{dec_lt}
use lib.Ieee.{Float, fin, binary64, fits, neg, up, down, is_nan, to_bits}
use lib.Ieee.Fits.{up_pos, down_pos}
use Rattle.double.specs.Fields.{Units, sign_of, field_of, digits_of, mag, normal_of}
use Rattle.double.proofs.Fields.{Measured, measured}
use Rattle.double.proofs.Normalised.{Normalised, of_double, fraction_up, fraction_down}
use Rattle.series.specs.Series.{Written, lAt, lOf}
use Rattle.series.proofs.SameFraction.{positive_below, from_one_of, below_one_of, L-by_any}
use Rattle.series.proofs.SignedFractions.{same_back, over-pos, over_pos_of}
use Rattle.logarithm.specs.Steps.{ln2, scaled_of, mantissa_of, positive_of, log_of}
use Rattle.logarithm.specs.Bound.{Close, Negative, NotNegative}
use Rattle.logarithm.proofs.Bound.{up_close, up_sign, down_close, down_sign, close_moves}
use Rattle.logarithm.proofs.Cases.{field_positive, log-unsigned}

-- ---- the two branches of positive_of

pub down_branch : (m k : ℕ) → k < 1074 → neg (scaled_of ((1074 - k) * ln2 - mantissa_of m / 2 ^ 11)) ≡ positive_of m k
unfolding positive_of
down_branch m k h = rw (lt-ltb k 1074 h)

pub up_branch : (m k : ℕ) → 1074 ≤ k → scaled_of ((k - 1074) * ln2 + mantissa_of m / 2 ^ 11) ≡ positive_of m k
unfolding positive_of
up_branch m k h = rw (le-ltb k 1074 h)

-- ---- a positive finite double x = s·2^e, s = n + 1, with the fraction a/b

module _ (n : ℕ) (e : ℤ) (F : T (fits binary64 (fin false (suc n) e))) where
  abbrev x : Float
  x = fin false (suc n) e

  abbrev a : ℕ
  a = suc n * up e

  abbrev b : ℕ
  b = down e

  abbrev field : ℕ
  field = field_of (to_bits binary64 x)

  abbrev digits : ℕ
  digits = digits_of (to_bits binary64 x)

  abbrev m : ℕ
  m = (normal_of field digits).m

  abbrev k : ℕ
  k = (normal_of field digits).k

  a_pos : 0 < a
  a_pos = mul-pos {m = suc n} (omega arith) (up_pos e)

  b-pos : 0 < b
  b-pos = down_pos e

  fields : Measured x (to_bits binary64 x)
  fields = measured x F tt

  no_sign : sign_of (to_bits binary64 x) ≡ false
  no_sign = sym fields.is.0

  units : Units x (mag field digits)
  units = (refl, fields.is.1)

  units-pos : 0 < mag field digits
  units-pos = factor_pos (mag field digits) b (subst (λ (v : ℕ). 0 < v) fields.is.1 (mul-pos a_pos (pow_pos 1074)))
    where
      factor_pos : (u d : ℕ) → 0 < u * d → 0 < u
      factor_pos zero d h = let z : 0 * d ≡ 0 = zero-mul d in omega arith
      factor_pos (suc u) d h = omega arith

  normal : Normalised (mag field digits) m k
  normal = of_double x (mag field digits) F units units-pos

  by_parts : positive_of m k ≡ log_of x
  unfolding is_nan
  by_parts = log-unsigned x (positive_of m k) refl no_sign (sym (field_positive field digits fields.field units-pos))

  -- ---- m·2^(k-1126) as 01 writes it

  up_value : 1074 ≤ k → a * 2 ^ 52 ≡ m * (b * 2 ^ (k - 1074))
  up_value h = fraction_up (suc n) (mag field digits) m k e units normal (k - 1074) (back k h)
    where
      back : (k : ℕ) → 1074 ≤ k → k ≡ k - 1074 + 1074
      back k h = omega arith

  down_value : k < 1074 → a * 2 ^ (1074 - k) * 2 ^ 52 ≡ m * b
  down_value h = fraction_down (suc n) (mag field digits) m k e units normal (1074 - k) (back k h)
    where
      back : (k : ℕ) → k < 1074 → k + (1074 - k) ≡ 1074
      back k h = omega arith

  m-from : 2 ^ 52 ≤ m
  m-from = normal.from

  m_to : m < 2 ^ 53
  m_to = normal.to

  up_written : 1074 ≤ k → Written a b (k - 1074) 0 m (2 ^ 52)
  up_written h = record { from_one = m-from; below_two = m_to; value = ap (λ (v : ℕ). v * 2 ^ 52) (mul-one a) ∙ up_value h }

  down_written : k < 1074 → Written a b 0 (1074 - k) m (2 ^ 52)
  down_written h = record { from_one = m-from; below_two = m_to; value = down_value h ∙ sym (ap (λ (v : ℕ). m * v) (mul-one b)) }

  -- how many turns there are, up or down

  few : (k : ℕ) → k < 2098 → k - 1074 ≤ 1023
  few k h = omega arith

  some : (k : ℕ) → k < 1074 → 1 ≤ 1074 - k
  some k h = omega arith

  most : (k : ℕ) → 1074 - k ≤ 1074
  most k = omega arith

  -- ---- the bound

  pub log_close : Close (log_of x) (lOf a b)
  log_close = subst (λ (r : Float). Close r (lOf a b)) by_parts (go (dec_lt k 1074))
    where
      moved : (r : Float) (u f : ℕ) → Written a b u f m (2 ^ 52) → Close r (lAt u f m (2 ^ 52)) → Close r (lOf a b)
      moved r u f w c = close_moves r (over-pos u f m (2 ^ 52) (omega arith)) (over_pos_of a b b-pos) (same_back (L-by_any a_pos b-pos w)) c

      from : (k : ℕ) → (k < 1074 → ⊥) → 1074 ≤ k
      from k h = omega arith

      go : Dec (k < 1074) → Close (positive_of m k) (lOf a b)
      go (yes h) =
          subst (λ (r : Float). Close r (lOf a b)) (down_branch m k h)
          (moved _ 0 (1074 - k) (down_written h) (down_close (1074 - k) m m-from m_to (some k h) (most k)))
      go (no h) =
          subst (λ (r : Float). Close r (lOf a b)) (up_branch m k (from k h))
          (moved _ (k - 1074) 0 (up_written (from k h)) (up_close (k - 1074) m m-from m_to (few k normal.most)))

  pub log_close_by_any : (r f c d : ℕ) → Written a b r f c d → Close (log_of x) (lAt r f c d)
  log_close_by_any r f c d w =
      close_moves (log_of x) (over_pos_of a b b-pos) (over-pos r f c d (positive_below w)) (L-by_any a_pos b-pos w) log_close

  -- ---- the sign: k - 1074 is below 0 exactly for x below 1

  pub log_below_one : a < b → Negative (log_of x)
  log_below_one h = subst Negative (down_branch m k low ∙ by_parts) (down_sign (1074 - k) m m-from m_to (some k low) (most k))
    where
      low : k < 1074
      low = lt_of_not-le (λ (g : 1074 ≤ k). not-le_of_lt h (from_one_of (up_written g)))

  pub log_from_one : b ≤ a → NotNegative (log_of x)
  log_from_one h = subst NotNegative (up_branch m k high ∙ by_parts) (up_sign (k - 1074) m m-from m_to (few k normal.most))
    where
      high : 1074 ≤ k
      high = le_of_suc-le-suc (lt_of_not-le (λ (g : suc k ≤ 1074). not-le_of_lt (below_one_of (down_written g) b-pos (some k g)) h))
