-- Doubles that are not negative, in units of 2^-1074: the digits of a sum with 2^52 are the other number, within 1; and a product of a
-- number up to 2^52 is off by less than one in that number. Assumes nothing.
use Rattle.std.proofs.Common.{◌≡◌, ℕ, zero, suc, ◌+◌, ◌*◌, ◌^◌, ◌<◌, ◌≤◌, Bool, false, not, T, pos, sym, refl, ap, ◌∙◌, subst, le_trans, mul-le-mul_right, mul-le-mul_left, mul-pos, pow-suc, le_of_mul-le-mul_right, le-add_left, arith, leb→le, pow_pos, pow_mono}
use native.Mathlib.Decide.{dec_lt}
use lib.Ieee.{Float, nan, inf, fin, binary64, up, down, round, add, le, is_nan, of_int, of_bits, to_bits}
use lib.Ieee.Back.{round_whole}
use lib.Ieee.Exact.{HasValue, round_exact}
use lib.Ieee.Fits.{add-fits}
use lib.Ieee.Order.{round_mono}
use lib.Ieee.Positive.{positive_of_value, values_of_le}
use Rattle.double.specs.Fields.{Units, field_of, digits_of, mag}
use Rattle.double.proofs.Fields.{Read, read, digits_lt}
use Rattle.double.proofs.Made.{of_parts}
use Rattle.double.proofs.NotNan.{no_nan_of_value}
use Rattle.rounding.proofs.errors.Added.{Totalled, add_is, total_near}

-- ---- the three numbers that are not rounded

pub whole_units : (d : ℕ) → d ≤ 2 ^ 53 → Units (of_int binary64 (pos d)) (d * 2 ^ 1074)
unfolding of_int
whole_units d h = finer (round binary64 false d 1) (round_whole binary64 false d h)
  where
    finer : (x : Float) → HasValue x false d 1 → Units x (d * 2 ^ 1074)
    finer nan v = v
    finer (inf s) v = v
    finer (fin s m e) v = (v.0, shape (m * up e) (down e) (2 ^ 1074) v.1)
      where
        shape : (x y u : ℕ) → x * 1 ≡ d * y → x * u ≡ d * u * y
        shape x y u h = omega (arith, ap (λ (t : ℕ). t * u) h)

pub two_to_52 : Units (of_bits binary64 0x4330_0000_0000_0000) (2 ^ 52 * 2 ^ 1074)
two_to_52 = of_parts 1074 0 (omega arith) (omega arith)

-- ---- the digits of a number from 2^52 up to 2^53: v is 2^1074, and w is 2^j

below_field : (v t w : ℕ) → 0 < v → t < 2 ^ 52 → w * 2 ≤ v → 2 ^ 52 * v ≤ (2 ^ 52 + t) * w → ⊥
below_field v t w pv h k l =
    let more : (2 ^ 52 + t) * (w * 2) ≤ (2 ^ 52 + t) * v = mul-le-mul_left (2 ^ 52 + t) k in
    let less : suc t * v ≤ 2 ^ 52 * v = mul-le-mul_right v h in
    omega arith

above_field : (v t w : ℕ) → v * 2 ≤ w → (2 ^ 52 + t) * w < 2 ^ 53 * v → ⊥
above_field v t w k l = omega (arith, mul-le-mul_left (2 ^ 52) k)

of-mag : (f t : ℕ) → t < 2 ^ 52 → 2 ^ 52 * 2 ^ 1074 ≤ mag f t → mag f t < 2 ^ 53 * 2 ^ 1074 → mag f t ≡ (2 ^ 52 + t) * 2 ^ 1074
unfolding mag
of-mag zero t h lo hi = absurd (too_small (2 ^ 1074) (pow_pos 1074) lo)
  where
    too_small : (v : ℕ) → 0 < v → 2 ^ 52 * v ≤ t → ⊥
    too_small v pv l = omega arith
of-mag (suc j) t h lo hi = go (dec_lt j 1074) (dec_lt 1074 j)
  where
    same : (j : ℕ) → (j < 1074 → ⊥) → (1074 < j → ⊥) → j ≡ 1074
    same j a b = omega arith

    go : Dec (j < 1074) → Dec (1074 < j) → (2 ^ 52 + t) * 2 ^ j ≡ (2 ^ 52 + t) * 2 ^ 1074
    go (yes a) b =
        absurd (below_field (2 ^ 1074) t (2 ^ j) (pow_pos 1074) h (subst (λ (x : ℕ). x ≤ 2 ^ 1074) (pow-suc 2 j) (pow_mono a)) lo)
    go (no a) (yes b) = absurd (above_field (2 ^ 1074) t (2 ^ j) (pow_mono b) hi)
    go (no a) (no b) = ap (λ (x : ℕ). (2 ^ 52 + t) * 2 ^ x) (same j a b)

-- ---- the sum of 2^52 and a number of u units, over plain variables: P is 2^53, H and C are 2^52, v is 2^1074; g are its units, q its
-- digits

sum_small :
    (v P H C M u g : ℕ) → 0 < P → u ≤ M * v → H ≤ v → M + C + 1 ≤ P → g * P ≤ (u + C * v) * P + (u + C * v + H) → g ≤ (M + C + 1) * v
sum_small v P H C M u g pP h l n a =
    le_of_mul-le-mul_right {k = P} (omega (arith, a, mul-le-mul_right P h, mul-le-mul_right v n)) pP

sum-some : (N P H g : ℕ) → 3 ≤ P → H ≤ N → 0 < H → N * P ≤ g * P + (N + H) → 0 < g
sum-some N P H zero h l n a = omega (arith, mul-le-mul_left N h)
sum-some N P H (suc g) h l n a = omega arith

one-above :
    (v P H C M u q : ℕ) → 0 < P → u ≤ M * v → H ≤ v → M + C + 1 ≤ P → (C + q) * v * P ≤ (u + C * v) * P + (u + C * v + H) → q * v ≤ u + v
one-above v P H C M u q pP h l n a = le_of_mul-le-mul_right {k = P} (omega (arith, a, h, l, mul-le-mul_right v n)) pP

one_below :
    (v P H C M u q : ℕ) → 0 < P → u ≤ M * v → H ≤ v → M + C + 1 ≤ P → (u + C * v) * P ≤ (C + q) * v * P + (u + C * v + H) → u ≤ q * v + v
one_below v P H C M u q pP h l n a = le_of_mul-le-mul_right {k = P} (omega (arith, a, h, l, mul-le-mul_right v n)) pP

module _ (z : Float) (u : ℕ) (is : Units z u) (small : u ≤ (2 ^ 51 + 2) * 2 ^ 1074) where
  abbrev s : Float
  s = add binary64 z (of_bits binary64 0x4330_0000_0000_0000)

  sum_near : Totalled binary64 s (u + 2 ^ 52 * 2 ^ 1074)
  sum_near =
      total_near binary64 z (of_bits binary64 0x4330_0000_0000_0000) u (2 ^ 52 * 2 ^ 1074) is two_to_52
      (le_trans (together (2 ^ 1074) small) (mul-le-mul_right (2 ^ 1074) (leb→le (2 ^ 53) (2 ^ 1023) tt)))
    where
      together : (v : ℕ) → u ≤ (2 ^ 51 + 2) * v → u + 2 ^ 52 * v ≤ 2 ^ 53 * v
      together v h = omega arith

  abbrev g : ℕ
  g = sum_near.units

  g_to : g < 2 ^ 53 * 2 ^ 1074
  g_to =
      strictly (2 ^ 1074) g (pow_pos 1074)
      (sum_small (2 ^ 1074) (2 ^ 53) (2 ^ 52) (2 ^ 52) (2 ^ 51 + 2) u g (omega arith) small (leb→le (2 ^ 52) (2 ^ 1074) tt) (omega arith)
      sum_near.near.not-above)
    where
      strictly : (v g : ℕ) → 0 < v → g ≤ (2 ^ 51 + 2 + 2 ^ 52 + 1) * v → g < 2 ^ 53 * v
      strictly v g pv h = omega arith

  g_some : 0 < g
  g_some =
      sum-some (u + 2 ^ 52 * 2 ^ 1074) (2 ^ 53) (2 ^ 52) g (omega arith)
      (le_trans (leb→le (2 ^ 52) (2 ^ 52 * 2 ^ 1074) tt) (le-add_left (2 ^ 52 * 2 ^ 1074) u)) (omega arith) sum_near.near.not-below

  -- rounding keeps the order, and 2^52 is not rounded
  g_from : 2 ^ 52 * 2 ^ 1074 ≤ g
  g_from =
      le_of_mul-le-mul_right {k = 2 ^ 1074}
      (values_of_le least s (2 ^ 52 * 2 ^ 1074) (2 ^ 1074) g (2 ^ 1074)
      (positive_of_value least _ (2 ^ 1074) exact (mul-pos {m = 2 ^ 52} (omega arith) (pow_pos 1074)))
      (positive_of_value s g (2 ^ 1074) sum_near.is g_some) exact sum_near.is
      (subst (λ (r : Float). T (le least r))
      (sym (add_is binary64 z (of_bits binary64 0x4330_0000_0000_0000) u (2 ^ 52 * 2 ^ 1074) is two_to_52))
      (round_mono binary64 (2 ^ 52 * 2 ^ 1074) (2 ^ 1074) (u + 2 ^ 52 * 2 ^ 1074) (2 ^ 1074) (pow_pos 1074) (pow_pos 1074)
      (mul-le-mul_right (2 ^ 1074) (le-add_left (2 ^ 52 * 2 ^ 1074) u)))))
      (pow_pos 1074)
    where
      least : Float
      least = round binary64 false (2 ^ 52 * 2 ^ 1074) (2 ^ 1074)

      exact : HasValue least false (2 ^ 52 * 2 ^ 1074) (2 ^ 1074)
      exact =
          round_exact binary64 false (2 ^ 52 * 2 ^ 1074) (2 ^ 1074) (2 ^ 52) 1074 (pow_pos 1074) (omega arith)
          (leb→le (suc (2 ^ 52 * 2 ^ 1074)) (2 ^ 2098) tt) refl

  abbrev q : ℕ
  q = digits_of (to_bits binary64 s)

  g_is : g ≡ (2 ^ 52 + q) * 2 ^ 1074
  g_is =
      let r : Read false g (to_bits binary64 s) =
      read s false g (add-fits binary64 z (of_bits binary64 0x4330_0000_0000_0000)) sum_near.is in
      r.size
      ∙ of-mag (field_of (to_bits binary64 s)) q (digits_lt (to_bits binary64 s)) (subst (λ (t : ℕ). 2 ^ 52 * 2 ^ 1074 ≤ t) r.size g_from)
      (subst (λ (t : ℕ). t < 2 ^ 53 * 2 ^ 1074) r.size g_to)

  pub sum_number : T (not (is_nan s))
  sum_number = subst (λ (b : Bool). T (not b)) (sym (no_nan_of_value s false g (2 ^ 1074) sum_near.is)) tt

  pub digits_above : q * 2 ^ 1074 ≤ u + 2 ^ 1074
  digits_above =
      one-above (2 ^ 1074) (2 ^ 53) (2 ^ 52) (2 ^ 52) (2 ^ 51 + 2) u q (omega arith) small (leb→le (2 ^ 52) (2 ^ 1074) tt) (omega arith)
      (subst (λ (t : ℕ). t * 2 ^ 53 ≤ (u + 2 ^ 52 * 2 ^ 1074) * 2 ^ 53 + (u + 2 ^ 52 * 2 ^ 1074 + 2 ^ 52)) g_is sum_near.near.not-above)

  pub digits_below : u ≤ q * 2 ^ 1074 + 2 ^ 1074
  digits_below =
      one_below (2 ^ 1074) (2 ^ 53) (2 ^ 52) (2 ^ 52) (2 ^ 51 + 2) u q (omega arith) small (leb→le (2 ^ 52) (2 ^ 1074) tt) (omega arith)
      (subst (λ (t : ℕ). (u + 2 ^ 52 * 2 ^ 1074) * 2 ^ 53 ≤ t * 2 ^ 53 + (u + 2 ^ 52 * 2 ^ 1074 + 2 ^ 52)) g_is sum_near.near.not-below)

-- ---- a product, of m / v² where that is about A·B / v: P, H and v as above, g its units

pub product_above :
    (v P H A B m g : ℕ) → 0 < v → 0 < P → A + H ≤ P → 1 ≤ B → m ≤ A * B * v → g * v * P ≤ m * P + (m + H * v) → g ≤ (A + 1) * B
product_above v P H A B m g pv pP h b l a =
    le_of_mul-le-mul_right {k = v * P}
    (omega (arith, a, l, mul-le-mul_right P l, mul-le-mul_right (B * v) h, mul-le-mul_left (H * v) b)) (mul-pos pv pP)

pub product_below :
    (v p H A B m g : ℕ) → 0 < v → A + H ≤ p + 1 → 1 ≤ B → A * B * v ≤ m → m * (p + 1) ≤ g * v * (p + 1) + (m + H * v) → A * B ≤ g + B
product_below v p H A B m g pv h b l a =
    le_of_mul-le-mul_right {k = v * (p + 1)}
    (omega (arith, a, mul-le-mul_right p l, mul-le-mul_right (B * v) h, mul-le-mul_left (H * v) b)) (mul-pos pv (omega arith))
