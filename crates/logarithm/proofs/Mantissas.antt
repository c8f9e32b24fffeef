-- The logarithm of a mantissa m / 2^52 as `mantissa` computes it, against S((m-1)/(m+1)): at most 3 units of 2^-64 above it, and 299 below.
-- The addition law takes m
-- apart into c and m/c; each part is off by its own bound. S is counted in units of 2^-120, rounded down. Assumes nothing.
use Rattle.std.proofs.Common.{◌≡◌, ℕ, zero, ◌+◌, ◌-◌, ◌*◌, ◌/◌, ◌%◌, ◌^◌, ◌<◌, ◌≤◌, get_or, sym, refl, ap, ◌∙◌, subst, ap₂, le_trans, le_of_eq, le_of_lt, mul-le-mul_right, mul-le-mul_left, le-div_iff_mul-le, arith, leb→le}
use native.Mathlib.Nat.{div-le_of_le-mul}
use Rattle.series.specs.Series.{s_den}
use Rattle.series.proofs.Terms.{s_den-pos}
use Rattle.series.proofs.Addition.{floor_s, floor_s_of_scaled, S-of_product_at_most, S-of_product_at_least}
use Rattle.logarithm.specs.table.Table.{table}
use Rattle.logarithm.specs.Steps.{ratio_of, short_series_of, mantissa_of}
use Rattle.logarithm.proofs.LongDivision.{quotient_small}
use Rattle.logarithm.proofs.table.TableRule.{entry_not_above, entry-one_below, entry_small}
use Rattle.logarithm.proofs.ShortSeries.{short_series_below, short_series_above, short_series_le}

-- 2^-120 is coarse enough for the addition law
coarse : 2 ^ 120 ≤ 3 ^ 80
coarse = leb→le (2 ^ 120) (3 ^ 80) tt

-- from units of 1/u to units of 1/(u v)
finer_below : (u v s n d : ℕ) → zero < d → s * d ≤ u * n → s * v ≤ u * v * n / d
finer_below u v s n d pd h = (le-div_iff_mul-le pd).1 (omega (arith, mul-le-mul_right v h))

finer_above : (u v s n d : ℕ) → zero < d → u * n ≤ s * d → u * v * n / d ≤ s * v
finer_above u v s n d pd h = div-le_of_le-mul d (omega (arith, mul-le-mul_right v h))

-- m = 2^52 + i·2^44 + d
module _ (i d : ℕ) (hi : i < 256) (hd : d < 2 ^ 44) where
  abbrev c : ℕ
  c = 2 ^ 52 + i * 2 ^ 44

  -- the entry's part
  entry_at : floor_s (2 ^ 120) (i * 2 ^ 44) (2 ^ 52 + 2 ^ 52 + i * 2 ^ 44) ≡ floor_s (2 ^ 120) i (512 + i)
  entry_at =
      ap (λ (x : ℕ). floor_s (2 ^ 120) (i * 2 ^ 44) x) (omega arith)
      ∙ floor_s_of_scaled (2 ^ 120) coarse (2 ^ 44) i (512 + i) (omega arith) (omega arith)

  entry-below : get_or table i 0 * 2 ^ 64 ≤ floor_s (2 ^ 120) i (512 + i)
  unfolding floor_s
  entry-below = finer_below (2 ^ 56) (2 ^ 64) _ _ (s_den (512 + i)) (s_den-pos (512 + i) (omega arith)) (entry_not_above i hi)

  entry-above : floor_s (2 ^ 120) i (512 + i) ≤ (get_or table i 0 + 1) * 2 ^ 64
  unfolding floor_s
  entry-above =
      finer_above (2 ^ 56) (2 ^ 64) (get_or table i 0 + 1) _ (s_den (512 + i)) (s_den-pos (512 + i) (omega arith))
      (omega (arith, entry-one_below i hi))

  -- the ratio's part
  abbrev t : ℕ
  t = d * 2 ^ 60 / (c + c + d) * 16

  some : zero < c + c + d
  some = omega arith

  small : 512 * d ≤ c + c + d
  small = omega arith

  ratio_below : short_series_of t * 2 ^ 56 ≤ floor_s (2 ^ 120) d (c + c + d)
  unfolding floor_s
  ratio_below =
      finer_below (2 ^ 64) (2 ^ 56) (short_series_of t) _ _ (s_den-pos (c + c + d) some) (short_series_below d (c + c + d) some small)

  ratio_above : floor_s (2 ^ 120) d (c + c + d) ≤ (short_series_of t + 40) * 2 ^ 56
  unfolding floor_s
  ratio_above =
      finer_above (2 ^ 64) (2 ^ 56) (short_series_of t + 40) _ _ (s_den-pos (c + c + d) some) (short_series_above d (c + c + d) some small)

  -- the addition law in 2^56 steps is off by at most 3 units of 2^-64
  stride_small : 2 ^ 120 * d / ((2 ^ 52 + i * 2 ^ 44) * 2 ^ 56) ≤ 2 ^ 56
  stride_small =
      let h : 2 ^ 52 * 2 ^ 56 ≤ (2 ^ 52 + i * 2 ^ 44) * 2 ^ 56 = omega arith in
      div-le_of_le-mul ((2 ^ 52 + i * 2 ^ 44) * 2 ^ 56) (le_trans (mul-le-mul_left (2 ^ 120) (le_of_lt hd)) (mul-le-mul_right (2 ^ 56) h))

  sum-above :
      floor_s (2 ^ 120) (i * 2 ^ 44 + d) (2 ^ 52 + 2 ^ 52 + i * 2 ^ 44 + d)
      ≤ floor_s (2 ^ 120) i (512 + i) + floor_s (2 ^ 120) d (c + c + d) + 3 * 2 ^ 56
  sum-above =
      rw
      (← entry_at)
      (omega (
        arith,
        S-of_product_at_most (2 ^ 120) coarse (2 ^ 52) (i * 2 ^ 44) d (2 ^ 56) (omega arith) (omega arith) (omega arith),
        stride_small,
      ))

  sum_below :
      floor_s (2 ^ 120) i (512 + i) + floor_s (2 ^ 120) d (c + c + d)
      ≤ floor_s (2 ^ 120) (i * 2 ^ 44 + d) (2 ^ 52 + 2 ^ 52 + i * 2 ^ 44 + d) + 3 * 2 ^ 56
  sum_below =
      rw
      (← entry_at)
      (omega (
        arith,
        S-of_product_at_least (2 ^ 120) coarse (2 ^ 52) (i * 2 ^ 44) d (2 ^ 56) (omega arith) (omega arith) (omega arith),
        stride_small,
      ))

  parts-above :
      floor_s (2 ^ 120) (i * 2 ^ 44 + d) (2 ^ 52 + 2 ^ 52 + i * 2 ^ 44 + d) ≤ (get_or table i 0 * 256 + short_series_of t + 299) * 2 ^ 56
  parts-above = omega (arith, sum-above, entry-above, ratio_above)

  parts_below :
      (get_or table i 0 * 256 + short_series_of t) * 2 ^ 56 ≤ floor_s (2 ^ 120) (i * 2 ^ 44 + d) (2 ^ 52 + 2 ^ 52 + i * 2 ^ 44 + d) + 3 * 2 ^ 56
  parts_below = omega (arith, sum_below, entry-below, ratio_below)

module _ (m : ℕ) (lo : 2 ^ 52 ≤ m) (hi : m < 2 ^ 53) where
  abbrev i : ℕ
  i = m / 2 ^ 44 - 256

  abbrev d : ℕ
  d = m % 2 ^ 44

  num_at : i * 2 ^ 44 + d ≡ m - 2 ^ 52
  num_at = omega arith

  den_at : 2 ^ 52 + 2 ^ 52 + i * 2 ^ 44 + d ≡ m + 2 ^ 52
  den_at = omega arith

  i_lt : i < 256
  i_lt = omega arith

  d_lt : d < 2 ^ 44
  d_lt = omega arith

  ratio_at : d * 2 ^ 60 / (2 ^ 52 + i * 2 ^ 44 + (2 ^ 52 + i * 2 ^ 44) + d) * 16 ≡ ratio_of m
  unfolding ratio_of
  ratio_at = ap (λ (x : ℕ). d * 2 ^ 60 / x * 16) (omega arith)

  pub mantissa_above : floor_s (2 ^ 120) (m - 2 ^ 52) (m + 2 ^ 52) ≤ (mantissa_of m + 299) * 2 ^ 56
  unfolding mantissa_of
  mantissa_above = rw (← num_at, ← den_at, ← ratio_at) (parts-above i d i_lt d_lt)

  pub mantissa_below : mantissa_of m * 2 ^ 56 ≤ floor_s (2 ^ 120) (m - 2 ^ 52) (m + 2 ^ 52) + 3 * 2 ^ 56
  unfolding mantissa_of
  mantissa_below = rw (← num_at, ← den_at, ← ratio_at) (parts_below i d i_lt d_lt)

-- ---- what the parts come to, for the overflows of `mantissa`

pub record Parts (m q e s : ℕ) : Type 0 where
  pub q_small : q < 2 ^ 51
  pub e_small : e ≤ 2 ^ 56 - 2 ^ 53
  pub s_small : s ≤ 2 ^ 58
  pub total : e * 256 + s ≡ mantissa_of m

pub parts :
    (m q e s : ℕ) → 2 ^ 52 ≤ m → m < 2 ^ 53 → q ≡ m % 2 ^ 44 * 2 ^ 60 / (m + m / 2 ^ 44 * 2 ^ 44) → e ≡ get_or table (m / 2 ^ 44 - 256) 0
    → s ≡ short_series_of (q * 16) → Parts m q e s
unfolding mantissa_of ratio_of
parts m q e s lo hi eq ee es =
    let hq : q < 2 ^ 51 = subst (λ (x : ℕ). x < 2 ^ 51) (sym eq)
    (quotient_small (m + m / 2 ^ 44 * 2 ^ 44) (omega arith) (m % 2 ^ 44) (omega arith)) in
    let he : e ≤ 2 ^ 56 - 2 ^ 53 = le_trans (le_of_eq ee) (entry_small (m / 2 ^ 44 - 256) (omega arith)) in
    let hs : s ≤ 2 ^ 58 = le_trans (le_of_eq es) (le_trans (short_series_le (q * 16) (omega arith)) (omega arith)) in
    record {
      q_small = hq;
      e_small = he;
      s_small = hs;
      total = ap₂ (λ (x y : ℕ). x * 256 + y) ee (es ∙ ap (λ (x : ℕ). short_series_of (x * 16)) eq);
    }

pub mantissa_fits : (m : ℕ) → 2 ^ 52 ≤ m → m < 2 ^ 53 → mantissa_of m < 2 ^ 64
mantissa_fits m lo hi =
    let p : Parts m (m % 2 ^ 44 * 2 ^ 60 / (m + m / 2 ^ 44 * 2 ^ 44)) (get_or table (m / 2 ^ 44 - 256) 0)
    (short_series_of (m % 2 ^ 44 * 2 ^ 60 / (m + m / 2 ^ 44 * 2 ^ 44) * 16)) =
    parts m _ _ _ lo hi refl refl refl in
    omega arith
