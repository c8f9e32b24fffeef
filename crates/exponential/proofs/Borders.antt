-- The borders of the places against the multiples of S(1/3), and the place of a number. Assumes nothing.
-- In order: the computed tests, what they say of a border, the place that the quotient finds.
use Rattle.std.proofs.Common.{◌≡◌, ℕ, ◌+◌, ◌-◌, ◌*◌, ◌/◌, ◌^◌, ◌<◌, ◌≤◌, Bool, true, false, cond, not, T, ltb, leb, ◌⊎◌, sym, refl, ap, ◌∙◌, subst, inl, inr, le_trans, le_of_eq, le_refl, lt_of_lt_of_le, le_of_suc-le-suc, lt_of_le_of_lt, add-le-add, mul-le-mul_right, suc-mul, div-lt_iff_lt-mul, eq-or-lt_of_le, le-div_iff_mul-le, not-le_of_lt, div-mul-le_self, add-one, add-one-le, arith, lit<, lit≤, ltb→lt, leb→le}
use native.Mathlib.Nat.{lt-div-mul-add}
use lib.Dec.{nleb→lt}
use lib.Pow.{shr_mono}
use Rattle.arith.proofs.Tables.{every, at_index}
use Rattle.exponential.specs.Sum.{third_num, third_den}
use Rattle.exponential.specs.Steps.{third_in53, third_rest, home, home_rest, border, gap, place_of, rest, third_in64, InRange, AtPlace}

-- what 1024·S(1/3) is rounded up by, in units of 2^-64 over third_den
unfoldable pub excess : ℕ
unfolding third_num third_den
excess = home * 2048 * third_den - 1024 * third_num * 2 ^ 64

pub excess-is : excess + 1024 * third_num * 2 ^ 64 ≡ home * 2048 * third_den
unfolding third_num third_den excess
excess-is = refl

-- ---- the tests, at every place

-- a border and its gap are over the multiple by 0 to 2 units of 2^-64 ..
gap_low : ℕ → Bool
unfolding third_num third_den excess border gap
gap_low k = leb (gap k * third_den + (k * third_num * 2 ^ 64 + excess)) (border k * 2048 * third_den)

gap_low_ok : T (every gap_low 2048)
unfolding every gap_low
gap_low_ok = tt

pub gap_not_above : (k : ℕ) → k < 2048 → gap k * third_den + (k * third_num * 2 ^ 64 + excess) ≤ border k * 2048 * third_den
unfolding gap_low
gap_not_above k h = leb→le _ _ (at_index gap_low 2048 gap_low_ok k h)

gap_high : ℕ → Bool
unfolding third_num third_den excess border gap
gap_high k = leb (border k * 2048 * third_den) ((gap k + 2) * third_den + (k * third_num * 2 ^ 64 + excess))

gap_high_ok : T (every gap_high 2048)
unfolding every gap_high
gap_high_ok = tt

pub gap_not_below : (k : ℕ) → k < 2048 → border k * 2048 * third_den ≤ (gap k + 2) * third_den + (k * third_num * 2 ^ 64 + excess)
unfolding gap_high
gap_not_below k h = leb→le _ _ (at_index gap_high 2048 gap_high_ok k h)

-- .. and a border is less than one unit of 2^-53 over it
border_near : ℕ → Bool
unfolding third_num third_den excess border
border_near k = ltb (border k * 2048 * third_den) (k * third_num * 2 ^ 64 + excess + 2048 * third_den)

border_near_ok : T (every border_near 2048)
unfolding every border_near
border_near_ok = tt

pub border_below_next : (k : ℕ) → k < 2048 → border k * 2048 * third_den < k * third_num * 2 ^ 64 + excess + 2048 * third_den
unfolding border_near
border_below_next k h = ltb→lt _ _ (at_index border_near 2048 border_near_ok k h)

-- the borders lie between the multiples of third_in53 + 1, one place off
below_multiple : ℕ → Bool
unfolding border
below_multiple k = leb (border (k + 2)) ((k + 2) * (third_in53 + 1))

below_multiple_ok : T (every below_multiple 2048)
unfolding every below_multiple
below_multiple_ok = tt

border_below_multiple : (k : ℕ) → k < 2048 → border (k + 2) ≤ (k + 2) * (third_in53 + 1)
unfolding below_multiple
border_below_multiple k h = leb→le _ _ (at_index below_multiple 2048 below_multiple_ok k h)

above_multiple : ℕ → Bool
unfolding border
above_multiple k = leb ((k + 1) * (third_in53 + 1)) (border (k + 2))

above_multiple_ok : T (every above_multiple 2048)
unfolding every above_multiple
above_multiple_ok = tt

border_above_multiple : (k : ℕ) → k < 2048 → (k + 1) * (third_in53 + 1) ≤ border (k + 2)
unfolding above_multiple
border_above_multiple k h = leb→le _ _ (at_index above_multiple 2048 above_multiple_ok k h)

-- no place is wider than S(1/3) by 2048 units of 2^-64
narrow : ℕ → Bool
unfolding border gap
narrow k = leb (border (k + 1) * 2048 + gap k) (border k * 2048 + (third_in64 + 2048))

narrow_ok : T (every narrow 2048)
unfolding every narrow
narrow_ok = tt

place_narrow : (k : ℕ) → k < 2048 → border (k + 1) * 2048 + gap k ≤ border k * 2048 + (third_in64 + 2048)
unfolding narrow
place_narrow k h = leb→le _ _ (at_index narrow 2048 narrow_ok k h)

-- so that no rest is larger
pub rest_small : (y part k : ℕ) → AtPlace y k → part < 2048 → rest (y * 2048 + part) k ≤ third_in64 + 2048
unfolding rest
rest_small y part k h l = go (border k) (border (k + 1)) (gap k) h.from h.below (place_narrow k (inside k h.high))
  where
    inside : (k : ℕ) → k ≤ 2046 → k < 2048
    inside k e = omega arith

    go : (m n g : ℕ) → m ≤ y → y < n → n * 2048 + g ≤ m * 2048 + (third_in64 + 2048) → y * 2048 + part + g - m * 2048 ≤ third_in64 + 2048
    go m n g a b c = omega arith

-- ---- borders as 64-bit numbers

border_mono : {j k : ℕ} → j ≤ k → border j ≤ border k
unfolding border
border_mono h =
    add-le-add (add-le-add (mul-le-mul_right third_in53 h) (shr_mono 40 (add-le-add (mul-le-mul_right third_rest h) (le_refl home_rest))))
    (le_refl 1)

last_border : border 2047 < 2 ^ 64
unfolding border
last_border = lit< tt

pub border_fits : (k : ℕ) → k ≤ 2047 → border k < 2 ^ 64
border_fits k h = lt_of_le_of_lt (border_mono h) last_border

pub border_order : (j k : ℕ) → border j < border (k + 1) → j ≤ k
border_order j k h = go (λ l. not-le_of_lt h (border_mono l))
  where
    go : (k + 1 ≤ j → ⊥) → j ≤ k
    go n = omega arith

-- ---- the place

module _ (y : ℕ) (range : InRange y) where
  low_y : 16057250244705494 ≤ y
  low_y = omega arith

  high_y : y ≤ 12779258594212691158
  high_y = omega arith

  k₀ : ℕ
  k₀ = y / (third_in53 + 1)

  k₀-low : 2 ≤ k₀
  unfolding k₀
  k₀-low = (le-div_iff_mul-le (lit< tt)).1 (le_trans (lit≤ tt) low_y)

  k₀-high : k₀ < 2047
  unfolding k₀
  k₀-high = (div-lt_iff_lt-mul (lit< tt)).1 (lt_of_le_of_lt high_y (lit< tt))

  low_border : border k₀ ≤ y
  unfolding k₀
  low_border = go (k₀ - 2) (omega (arith, k₀-low)) (border_below_multiple (k₀ - 2) (omega (arith, k₀-high)))
    where
      go : (j : ℕ) → k₀ ≡ j + 2 → border (j + 2) ≤ (j + 2) * (third_in53 + 1) → border k₀ ≤ y
      go j e b = le_trans (subst (λ (x : ℕ). border x ≤ x * (third_in53 + 1)) (sym e) b) (div-mul-le_self y (third_in53 + 1))

  next-border : y < border (k₀ + 2)
  unfolding k₀
  next-border =
      lt_of_lt_of_le (lt-div-mul-add {a = y} {b = third_in53 + 1} (lit< tt))
      (le_trans (le_of_eq (sym (suc-mul k₀ (third_in53 + 1)) ∙ ap (λ (x : ℕ). x * (third_in53 + 1)) (sym (add-one k₀))))
      (border_above_multiple k₀ (omega (arith, k₀-high))))

  pub at_place : AtPlace y (place_of y)
  unfolding place_of k₀
  at_place = go (leb (border (k₀ + 1)) y) (leb→le _ _) (nleb→lt _ _)
    where
      -- at k₀ = 2046 the next border is past the end
      past : k₀ ≡ 2046 → border (k₀ + 1) ≤ y → ⊥
      past e b = not-le_of_lt (lt_of_le_of_lt high_y (lit< tt)) (subst (λ (x : ℕ). border (x + 1) ≤ y) e b)

      high : border (k₀ + 1) ≤ y → k₀ + 1 ≤ 2046
      high b = pick (eq-or-lt_of_le (le_of_suc-le-suc k₀-high))
        where
          pick : (k₀ ≡ 2046) ⊎ (k₀ < 2046) → k₀ + 1 ≤ 2046
          pick (inl e) = absurd (past e b)
          pick (inr m) = add-one-le m

      go : (b : Bool) → (T b → border (k₀ + 1) ≤ y) → (T (not b) → y < border (k₀ + 1)) → AtPlace y (cond b (k₀ + 1) k₀)
      go true p q =
          record {
            from = p tt;
            below = subst (λ (x : ℕ). y < border x) (omega arith) next-border;
            low = omega (arith, k₀-low);
            high = high
                (p tt);
          }
      go false p q = record { from = low_border; below = q tt; low = k₀-low; high = le_of_suc-le-suc k₀-high }
