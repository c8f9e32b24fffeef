-- n / 2^53 as a double is near n / 2^53: two roundings, each within 2^-53 of what it rounds. Assumes nothing.
use Rattle.std.proofs.Common.{◌≡◌, ℕ, zero, suc, ◌+◌, ◌*◌, ◌^◌, ◌<◌, ◌≤◌, false, pos, negsuc, sym, refl, ap, ◌∙◌, subst, le_trans, lt_of_le_of_lt, le_of_lt, mul-le-mul_right, mul-le-mul_left, mul-pos, le_of_mul-le-mul_right, arith, leb→le, pow_pos}
use lib.Count.{count_trailing_zeros}
use lib.Ieee.{Float, fin, binary64, mul, of_int, of_bits, of_fields, round, size, units, odd}
use lib.Ieee.Scale.{grid, overflow, round_val, normal_of_fraction}
use lib.Ieee.Positive.{mul_at, positive_of_value}
use Rattle.double.specs.Fields.{Units}
use Rattle.rounding.specs.Within.{Within}
use Rattle.rounding.proofs.Relative.{rounded}
use Rattle.logarithm.specs.Steps.{scaled_of}

-- the literal of `scaled`
factor : of_bits binary64 0x3ca0_0000_0000_0000 ≡ fin false 1 (negsuc 52)
unfolding of_bits of_fields odd count_trailing_zeros
factor = refl

-- a/c in units, rounded, against a/c
near_grid : (a c : ℕ) → 0 < c → 2 ^ 52 * c ≤ a * 2 ^ 1074 → Within (grid binary64 a c * c * 2 ^ 53) (a * 2 ^ 1074 * 2 ^ 53) (a * 2 ^ 1074)
near_grid a c pc h = rounded 53 (a * 2 ^ 1074) c pc (omega arith) (normal_of_fraction binary64 a c pc h)

upper_of : (g n w z : ℕ) → 1 ≤ z → g * 1 * z ≤ n * w * z + n * w → g * z ≤ 2 * (n * w) * z
upper_of g n w z h k = omega (arith, mul-le-mul_left (n * w) h)

lower_of : (g n w z : ℕ) → 2 ≤ z → 1 ≤ n → n * w * z ≤ g * 1 * z + n * w → w * z ≤ 2 * g * z
lower_of g n w z h hn k = omega (arith, mul-le-mul_left (n * w) h, mul-le-mul_right (w * z) hn)

-- h is within 2^-53 of g/2^53, and g of n: w is 2^1074, z is 2^53
both_roundings :
    (n g h w z : ℕ) → 0 < w → g * 1 * z ≤ n * w * z + n * w → n * w * z ≤ g * 1 * z + n * w → h * (w * z) * z ≤ g * 1 * w * z + g * 1 * w
    → g * 1 * w * z ≤ h * (w * z) * z + g * 1 * w
    → (h * z * z * z ≤ n * w * (z + 1) * (z + 1)) × (n * w * z * z ≤ h * z * z * z + n * w * (2 * z + 1))
both_roundings n g h w z pw a₁ a₂ b₁ b₂ =
    let c₁ : h * z * z ≤ g * z + g = le_of_mul-le-mul_right {k = w} (omega arith) pw in
    let c₂ : g * z ≤ h * z * z + g = le_of_mul-le-mul_right {k = w} (omega arith) pw in
    (omega (arith, mul-le-mul_right z c₁, mul-le-mul_right (z + 1) a₁), omega (arith, mul-le-mul_right z c₂, mul-le-mul_right z a₂))

-- x is units, and those are n / 2^53 within (1 + 2^-53)²
pub record NearFraction (n : ℕ) (x : Float) : Type 0 where
  pub units : ℕ
  pub value : Units x units
  pub not-above : units * 2 ^ 53 * 2 ^ 53 * 2 ^ 53 ≤ n * 2 ^ 1074 * (2 ^ 53 + 1) * (2 ^ 53 + 1)
  pub not-below : n * 2 ^ 1074 * 2 ^ 53 * 2 ^ 53 ≤ units * 2 ^ 53 * 2 ^ 53 * 2 ^ 53 + n * 2 ^ 1074 * (2 * 2 ^ 53 + 1)

module _ (n : ℕ) (pn : 0 < n) (hn : n < 2 ^ 64) where
  -- n as a double
  abbrev g : ℕ
  g = grid binary64 n 1

  first_normal : 2 ^ 52 * 1 ≤ n * 2 ^ 1074
  first_normal = le_trans (leb→le (2 ^ 52 * 1) (1 * 2 ^ 1074) tt) (mul-le-mul_right (2 ^ 1074) pn)

  first : Within (g * 1 * 2 ^ 53) (n * 2 ^ 1074 * 2 ^ 53) (n * 2 ^ 1074)
  first = near_grid n 1 (omega arith) first_normal

  g_le : g ≤ 2 * (n * 2 ^ 1074)
  g_le = le_of_mul-le-mul_right {k = 2 ^ 53} (upper_of g n (2 ^ 1074) (2 ^ 53) (omega arith) first.not-above) (omega arith)

  g_ge : 2 ^ 1074 ≤ 2 * g
  g_ge = le_of_mul-le-mul_right {k = 2 ^ 53} (lower_of g n (2 ^ 1074) (2 ^ 53) (omega arith) pn first.not-below) (omega arith)

  g_fits : g < overflow binary64
  g_fits =
      lt_of_le_of_lt
      (le_trans g_le (mul-le-mul_left 2 (mul-le-mul_right (2 ^ 1074) (le_of_lt hn))))
      (leb→le (suc (2 * (2 ^ 64 * 2 ^ 1074))) (2 ^ 2098) tt)

  whole_value : Units (of_int binary64 (pos n)) g
  unfolding of_int
  whole_value = round_val binary64 n 1 g_fits

  g_pos : 0 < g
  g_pos = half_pos g (2 ^ 1074) (pow_pos 1074) g_ge
    where
      half_pos : (a b : ℕ) → 0 < b → b ≤ 2 * a → 0 < a
      half_pos a b h k = omega arith

  -- times 2^-53
  abbrev h : ℕ
  h = grid binary64 (g * 1) (2 ^ 1074 * 2 ^ 53)

  product : scaled_of n ≡ round binary64 false (g * 1) (2 ^ 1074 * 2 ^ 53)
  unfolding scaled_of
  product =
      ap (mul binary64 (of_int binary64 (pos n))) factor
      ∙ mul_at binary64 (of_int binary64 (pos n)) (fin false 1 (negsuc 52)) g (2 ^ 1074) 1 (2 ^ 53)
      (positive_of_value (of_int binary64 (pos n)) g (2 ^ 1074) whole_value g_pos) tt (pow_pos 1074) (pow_pos 53) whole_value (refl, refl)

  second_normal : 2 ^ 52 * (2 ^ 1074 * 2 ^ 53) ≤ g * 1 * 2 ^ 1074
  second_normal = shape g (2 ^ 1074) g_ge (leb→le (2 ^ 106) (2 ^ 1074) tt)
    where
      shape : (g w : ℕ) → w ≤ 2 * g → 2 ^ 106 ≤ w → 2 ^ 52 * (w * 2 ^ 53) ≤ g * 1 * w
      shape g w h k =
          let l : 2 ^ 105 ≤ g = omega arith in
          le_trans {m = 2 ^ 105 * w} (omega arith) (le_trans (mul-le-mul_right w l) (omega arith))

  second : Within (h * (2 ^ 1074 * 2 ^ 53) * 2 ^ 53) (g * 1 * 2 ^ 1074 * 2 ^ 53) (g * 1 * 2 ^ 1074)
  second = near_grid (g * 1) (2 ^ 1074 * 2 ^ 53) (mul-pos (pow_pos 1074) (pow_pos 53)) second_normal

  h_le : h ≤ g
  h_le = shape h g (2 ^ 1074) (2 ^ 53) (pow_pos 1074) (omega arith) second.not-above
    where
      shape : (h g w z : ℕ) → 0 < w → 2 ≤ z → h * (w * z) * z ≤ g * 1 * w * z + g * 1 * w → h ≤ g
      shape h g w z pw hz k =
          let a : h * z * z ≤ g * z + g = le_of_mul-le-mul_right {k = w} (omega arith) pw in
          let b : h * z * 2 ≤ h * z * z = mul-le-mul_left (h * z) hz in
          let c : g * 1 ≤ g * z = mul-le-mul_left g (omega arith) in
          le_of_mul-le-mul_right {k = z} (omega arith) (omega arith)

  pub scaled_near : NearFraction n (scaled_of n)
  scaled_near =
      let b = both_roundings n g h (2 ^ 1074) (2 ^ 53) (pow_pos 1074) first.not-above first.not-below second.not-above
      second.not-below in
      record {
        units = h;
        value =
            subst (λ (x : Float). Units x h) (sym product) (round_val binary64 (g * 1) (2 ^ 1074 * 2 ^ 53) (lt_of_le_of_lt h_le g_fits));
        not-above = b.0;
        not-below = b.1;
      }

-- a positive n gives a positive number of units
pub some-units : (n h : ℕ) → 0 < n → n * 2 ^ 1074 * 2 ^ 53 * 2 ^ 53 ≤ h * 2 ^ 53 * 2 ^ 53 * 2 ^ 53 + n * 2 ^ 1074 * (2 * 2 ^ 53 + 1) → 0 < h
some-units n zero pn k = absurd (none (n * 2 ^ 1074) (mul-pos pn (pow_pos 1074)) k)
  where
    none : (v : ℕ) → 0 < v → v * 2 ^ 53 * 2 ^ 53 ≤ 0 * 2 ^ 53 * 2 ^ 53 * 2 ^ 53 + v * (2 * 2 ^ 53 + 1) → ⊥
    none v p l = omega arith
some-units n (suc h) pn k = omega arith

-- 0 / 2^53
pub zero-scaled : Units (scaled_of 0) 0
unfolding scaled_of mul of_int of_bits of_fields round size units odd count_trailing_zeros
zero-scaled = (refl, refl)
