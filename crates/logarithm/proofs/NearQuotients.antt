-- d·2^60 / n as `estimated` computes it is within 2 of d / (k / 2^59), k = n / 2, so that the lower half of its product with n tells the
-- rest: two roundings, of x / y and of its sum with 2^52. Assumes nothing.
use Rattle.std.proofs.Common.{◌≡◌, ℕ, ◌+◌, ◌*◌, ◌^◌, ◌<◌, ◌≤◌, false, sym, ap, subst, le_trans, le_of_eq, mul-le-mul_right, mul-le-mul, mul-le-mul_left, mul-pos, le_of_mul-le-mul_right, arith, leb→le, pow_pos, pow-add}
use lib.Ieee.{Float, binary64, div}
use Rattle.double.specs.Fields.{Units}
use Rattle.rounding.specs.errors.Errors.{Rounded}
use Rattle.rounding.proofs.errors.Divided.{div_is}
use Rattle.rounding.proofs.errors.Rounded.{rounded_near}

-- ---- the quotient, over plain variables: d/W is to be divided by k, W = 2^59; P is 2^53, H is 2^52, v is 2^1074 and Z is v / W; u is
-- x / y
-- in units, and q its digits

first_above :
    (v Z W P H k d u : ℕ) → 0 < Z → v ≡ Z * W → u * (k * Z) * P ≤ d * v * v * P + (d * v * v + H * (k * Z))
    → u * k * P ≤ d * v * W * P + d * v * W + H * k
first_above v Z W P H k d u pZ e h =
    le_of_mul-le-mul_right {k = Z} (omega (arith, h, ap (λ (t : ℕ). d * v * t * P) e, ap (λ (t : ℕ). d * v * t) e)) pZ

first_below :
    (v Z W P H k d u : ℕ) → 0 < Z → v ≡ Z * W → d * v * v * P ≤ u * (k * Z) * P + (d * v * v + H * (k * Z))
    → d * v * W * P ≤ u * k * P + d * v * W + H * k
first_below v Z W P H k d u pZ e h =
    le_of_mul-le-mul_right {k = Z} (omega (arith, h, ap (λ (t : ℕ). d * v * t * P) e, ap (λ (t : ℕ). d * v * t) e)) pZ

-- x / y is at most c and a little
not_large :
    (v W P H k d u c : ℕ) → 0 < k → 1 ≤ P → H ≤ v → c ≤ P → d * W ≤ c * k → u * k * P ≤ d * v * W * P + d * v * W + H * k → u ≤ (c + 2) * v
not_large v W P H k d u c pk pP h hc l n =
    le_of_mul-le-mul_right {k = k * P}
    (omega (
      arith,
      n,
      mul-le-mul_right (v * P) l,
      mul-le-mul_right v l,
      mul-le-mul_right (k * v) hc,
      mul-le-mul_right k h,
      mul-le-mul_right (k * v) pP,
    ))
    (mul-pos pk pP)

two-above :
    (v W P H k d u q c : ℕ) → 0 < v → 0 < P → H ≤ v → c + 1 ≤ P → d * W ≤ c * k → u * k * P ≤ d * v * W * P + d * v * W + H * k
    → q * v ≤ u + v → q * k ≤ d * W + 2 * k
two-above v W P H k d u q c pv pP h hc l a b =
    le_of_mul-le-mul_right {k = v * P}
    (omega (arith, a, mul-le-mul_right (k * P) b, mul-le-mul_right v l, mul-le-mul_right (k * v) hc, mul-le-mul_right k h)) (mul-pos pv pP)

two-below :
    (v W P H k d u q c : ℕ) → 0 < v → 0 < P → H ≤ v → c + 1 ≤ P → d * W ≤ c * k → d * v * W * P ≤ u * k * P + d * v * W + H * k
    → u ≤ q * v + v → d * W ≤ q * k + 2 * k
two-below v W P H k d u q c pv pP h hc l a b =
    le_of_mul-le-mul_right {k = v * P}
    (omega (arith, a, mul-le-mul_right (k * P) b, mul-le-mul_right v l, mul-le-mul_right (k * v) hc, mul-le-mul_right k h)) (mul-pos pv pP)

-- ---- x is d, and y is k / 2^59

module _ (d k : ℕ) (x y : Float) (X : Units x (d * 2 ^ 1074)) (Y : Units y (k * 2 ^ 1015)) (from : 2 ^ 52 ≤ k) (small : 256 * d ≤ k) where
  k-pos : 0 < k
  k-pos = omega arith

  y_pos : 0 < k * 2 ^ 1015
  y_pos = mul-pos k-pos (pow_pos 1015)

  scale : 2 ^ 1074 ≡ 2 ^ 1015 * 2 ^ 59
  scale = pow-add 2 1015 59

  times : d * 2 ^ 59 ≤ 2 ^ 51 * k
  times = omega arith

  pub quotient_near : Rounded binary64 (div binary64 x y) false (d * 2 ^ 1074) (k * 2 ^ 1015)
  quotient_near =
      subst (λ (r : Float). Rounded binary64 r false (d * 2 ^ 1074) (k * 2 ^ 1015))
      (sym (div_is binary64 x y false false (d * 2 ^ 1074) (k * 2 ^ 1015) y_pos X Y))
      (rounded_near binary64 false (d * 2 ^ 1074) (k * 2 ^ 1015) y_pos
      (le_trans (mul-le-mul fewer (leb→le (2 ^ 1074) (2 ^ 1023 * 2 ^ 1015) tt)) (le_of_eq (turned (2 ^ 1023) (2 ^ 1015)))))
    where
      fewer : d ≤ k
      fewer = omega arith

      turned : (a b : ℕ) → k * (a * b) ≡ a * (k * b)
      turned a b = omega arith

  abbrev pub u : ℕ
  u = quotient_near.units

  pub u_units : Units (div binary64 x y) u
  u_units = quotient_near.is

  u_above : u * k * 2 ^ 53 ≤ d * 2 ^ 1074 * 2 ^ 59 * 2 ^ 53 + d * 2 ^ 1074 * 2 ^ 59 + 2 ^ 52 * k
  u_above = first_above (2 ^ 1074) (2 ^ 1015) (2 ^ 59) (2 ^ 53) (2 ^ 52) k d u (pow_pos 1015) scale quotient_near.near.not-above

  u_below : d * 2 ^ 1074 * 2 ^ 59 * 2 ^ 53 ≤ u * k * 2 ^ 53 + d * 2 ^ 1074 * 2 ^ 59 + 2 ^ 52 * k
  u_below = first_below (2 ^ 1074) (2 ^ 1015) (2 ^ 59) (2 ^ 53) (2 ^ 52) k d u (pow_pos 1015) scale quotient_near.near.not-below

  pub u_small : u ≤ (2 ^ 51 + 2) * 2 ^ 1074
  u_small =
      not_large (2 ^ 1074) (2 ^ 59) (2 ^ 53) (2 ^ 52) k d u (2 ^ 51) k-pos (omega arith) (leb→le (2 ^ 52) (2 ^ 1074) tt) (omega arith) times
      u_above

  module _ (q : ℕ) where
    pub near_above : q * 2 ^ 1074 ≤ u + 2 ^ 1074 → q * k ≤ d * 2 ^ 59 + 2 * k
    near_above =
        two-above (2 ^ 1074) (2 ^ 59) (2 ^ 53) (2 ^ 52) k d u q (2 ^ 51) (pow_pos 1074) (omega arith) (leb→le (2 ^ 52) (2 ^ 1074) tt)
        (omega arith) times u_above

    pub near_below : u ≤ q * 2 ^ 1074 + 2 ^ 1074 → d * 2 ^ 59 ≤ q * k + 2 * k
    near_below =
        two-below (2 ^ 1074) (2 ^ 59) (2 ^ 53) (2 ^ 52) k d u q (2 ^ 51) (pow_pos 1074) (omega arith) (leb→le (2 ^ 52) (2 ^ 1074) tt)
        (omega arith) times u_below

-- ---- from k = n / 2 to n

module _ (d n k q : ℕ) (small : n < 2 ^ 54) (few : q < 2 ^ 52) where
  pub last_bit_above : n ≤ 2 * k + 1 → 2 * k ≤ n → q * k ≤ d * 2 ^ 59 + 2 * k → q * n ≤ d * 2 ^ 60 + 2 ^ 56
  last_bit_above hi lo a = omega (arith, mul-le-mul_left q hi)

  pub last_bit_below : 2 * k ≤ n → d * 2 ^ 59 ≤ q * k + 2 * k → d * 2 ^ 60 ≤ q * n + 2 ^ 56
  last_bit_below lo b = omega (arith, mul-le-mul_left q lo)
