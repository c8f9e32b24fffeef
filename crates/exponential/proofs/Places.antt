-- The place of every x from -708 to 709 is the floor of x/S(1/3), raised by 1024, and the sum at its rest is within the bound. Assumes
-- nothing. x is any fraction a / b, or its negative. x + 1024·S(1/3) = U / (third_den·b).
use Rattle.std.proofs.Common.{◌≡◌, ℕ, zero, ◌+◌, ◌-◌, ◌*◌, ◌/◌, ◌^◌, ◌<◌, ◌≤◌, true, false, ◌⊎◌, sym, refl, ap, ◌∙◌, inl, inr, le_trans, le_of_eq, lt_of_lt_of_le, lt_of_le_of_lt, le_of_lt, mul-le-mul_right, add-mul, eq-zero-or-pos, mul-le-mul_left, mul-pos, one-mul, zero-mul, sub-add_cancel, mul_right_comm, div-mul-le_self, mul-div_cancel, arith, lit<, lit≤}
use native.Mathlib.Nat.{mul-lt-mul_of_pos_left, lt-div-mul-add, div-le_of_le-mul}
use lib.Arith.{digits_div}
use Rattle.arith.proofs.Quotients.{up_reaches, up_below, up_most}
use Rattle.rounding.specs.Within.{Within}
use Rattle.exponential.specs.Sum.{third_num, third_den, factorial}
use Rattle.exponential.specs.Steps.{home, border, gap, place_of, raised, rest, third_in64, horner, InRange, AtPlace}
use Rattle.exponential.proofs.Horner.{last_terms, rounded}
use Rattle.exponential.proofs.Borders.{excess, excess-is, gap_not_above, gap_not_below, border_below_next, border_order, at_place}
use Rattle.exponential.proofs.Remainder.{rest_not_above, rest_not_below, floor_from, floor_below, up_not_above, up_not_below}
use Rattle.exponential.proofs.Remainder.{up_exact, down_not_above, down_not_below, down_exact, rest-most}

third-pos : 0 < third_num
unfolding third_num
third-pos = lit< tt

den_pos : 0 < third_den
unfolding third_den
den_pos = lit< tt

third_below_one : third_num ≤ third_den
unfolding third_num third_den
third_below_one = lit≤ tt

third_over_half : third_den ≤ 2 * third_num
unfolding third_num third_den
third_over_half = lit≤ tt

third_in_64 : third_num * 2 ^ 64 ≤ (third_in64 + 1) * third_den
unfolding third_num third_den
third_in_64 = lit≤ tt

end_in_range : 708 * third_den ≤ 1024 * third_num
unfolding third_num third_den
end_in_range = lit≤ tt

border-home : border 1024 ≡ home
unfolding border
border-home = refl

border_before_home : border 1023 + 2 ^ 52 ≤ home
unfolding border
border_before_home = lit≤ tt

-- ---- from w to the place

-- why x is below the next multiple: nothing was rounded off, or its place is known to be m at least
data Kept (b w U : ℕ) : Type 0 where
  exact : w ≡ w / 2048 * 2048 → excess * b + U * 2 ^ 64 ≤ w * (third_den * b) → Kept b w U
  known : (m : ℕ) → U < (m + 1) * third_num * b → border m ≤ w / 2048 → Kept b w U

pub record Placed (b w U : ℕ) : Type 0 where
  pub p : ℕ
  pub splits : U ≡ p + place_of (w / 2048) * third_num * b
  pub below : p < third_num * b
  pub least : 2 ≤ place_of (w / 2048)
  pub most : place_of (w / 2048) ≤ 2046
  pub small : rest w (place_of (w / 2048)) ≤ third_in64
  pub near :
      Within (2 ^ 44 * ((horner (rest w (place_of (w / 2048))) 39 + 512) / 1024 * 1024 * (factorial 39 * (third_den * b) ^ 39)))
      (2 ^ 44 * (2 ^ 62 * last_terms p (third_den * b) 39)) (2 ^ 62 * last_terms p (third_den * b) 39)

module _ (b w U : ℕ) (bp : 0 < b) (range : InRange (w / 2048))
    (lo : w * (third_den * b) ≤ excess * b + U * 2 ^ 64) (hi : excess * b + U * 2 ^ 64 ≤ w * (third_den * b) + third_den * b)
    (kept : Kept b w U) where
  abbrev k : ℕ
  k = place_of (w / 2048)

  place : AtPlace (w / 2048) k
  place = at_place (w / 2048) range

  inside : k < 2048
  inside = go place.high
    where
      go : {n : ℕ} → n ≤ 2046 → n < 2048
      go e = omega arith

  next_inside : k + 1 < 2048
  next_inside = go place.high
    where
      go : {n : ℕ} → n ≤ 2046 → n + 1 < 2048
      go e = omega arith

  reached : border k * 2048 ≤ w
  reached = go (border k) place.from
    where
      go : (m : ℕ) → m ≤ w / 2048 → m * 2048 ≤ w
      go m h = omega arith

  from : k * third_num * b ≤ U
  from = floor_from third_num third_den b (2 ^ 64) excess k (border k * 2048) w U (gap k) (lit< tt) (gap_not_above k inside) reached lo

  under : U < (k + 1) * third_num * b
  under = go kept
    where
      past : (m : ℕ) → w ≡ w / 2048 * 2048 → w / 2048 < m → w + 2048 ≤ m * 2048
      past m e l = omega arith

      go : Kept b w U → U < (k + 1) * third_num * b
      go (exact e h) =
          floor_below third_num third_den b (2 ^ 64) excess (k + 1) (border (k + 1) * 2048) w U bp (border_below_next (k + 1) next_inside)
          (past (border (k + 1)) e place.below) h
      go (known m u v) =
          lt_of_lt_of_le u (mul-le-mul_right b (mul-le-mul_right third_num (one (border_order m k (lt_of_le_of_lt v place.below)))))
        where
          one : {m n : ℕ} → m ≤ n → m + 1 ≤ n + 1
          one l = omega arith

  rest-is : rest w k + border k * 2048 ≡ w + gap k
  unfolding rest
  rest-is = go (border k * 2048) (gap k) reached
    where
      go : (m g : ℕ) → m ≤ w → w + g - m + m ≡ w + g
      go m g h = omega arith

  found : Placed b w U
  found =
      let p : ℕ = U - k * third_num * b in
      let splits : U ≡ p + k * third_num * b = sym (sub-add_cancel from) in
      let below : p < third_num * b = less (k * third_num * b) (third_num * b) ((k + 1) * third_num * b)
      (ap (λ (x : ℕ). x * b) (add-mul k 1 third_num ∙ ap (λ (x : ℕ). k * third_num + x) (one-mul third_num))
      ∙ add-mul (k * third_num) third_num b) from under in
      let lower = rest_not_above third_num third_den b (2 ^ 64) excess k (border k * 2048) (gap k) w U p (rest w k) rest-is lo splits
      (gap_not_above k inside) in
      let upper = rest_not_below third_num third_den b (2 ^ 64) excess k (border k * 2048) (gap k) w U p (rest w k) rest-is hi splits
      (gap_not_below k inside) in
      let small = rest-most third_num third_den b (2 ^ 64) p (rest w k) third_in64 lower below (lit< tt) third_in_64 in
      record {
        p = p;
        splits = splits;
        below = below;
        least = place.low;
        most = place.high;
        small = small;
        near = rounded p (third_den * b) (rest w k) lower upper (le_trans (le_of_lt below) (mul-le-mul_right b third_below_one)) small;
      }
    where
      less : (K M L : ℕ) → L ≡ K + M → K ≤ U → U < L → U - K < M
      less K M L e l h = omega arith

-- ---- from x to w

-- A double below ½ may have digits below 2^-64; from ½ on it is a whole number of 2^-53.
pub data Fine (a b : ℕ) : Type 0 where
  low : 2 * a < b → Fine a b
  whole : (n : ℕ) → a * 2 ^ 53 ≡ n * b → Fine a b

units : (a b n : ℕ) → a * 2 ^ 53 ≡ n * b → a * 2 ^ 64 ≡ n * 2048 * b
units a b n e = omega (arith, ap (λ (x : ℕ). x * 2048) e)

-- a below half of b is below S(1/3)
below-turn : (N D a b : ℕ) → 0 < N → D ≤ 2 * N → 2 * a < b → 1024 * N * b + a * D < (1024 + 1) * N * b
below-turn N D a b p h l = omega (arith, mul-le-mul_left a h, mul-lt-mul_of_pos_left l p)

module _ (a b : ℕ) (bp : 0 < b) (most : a ≤ 709 * b) where
  f : ℕ
  f = a * 2 ^ 64 / b

  f-most : f ≤ 709 * 2 ^ 64
  unfolding f
  f-most = div-le_of_le-mul b (le_trans (mul-le-mul_right (2 ^ 64) most) (le_of_eq (go b)))
    where
      go : (b : ℕ) → 709 * b * 2 ^ 64 ≡ b * (709 * 2 ^ 64)
      go b = omega arith

  range_of : (n : ℕ) → n ≤ 709 * 2 ^ 64 → InRange ((home * 2048 + n) / 2048)
  range_of n h = record { from = omega arith; to = omega arith }

  pub up_range : InRange (raised false a b / 2048)
  unfolding raised f
  up_range = range_of f f-most

  kept_up : Fine a b → Kept b (home * 2048 + f) (1024 * third_num * b + a * third_den)
  unfolding f
  kept_up (low l) = known 1024 (below-turn third_num third_den a b third-pos third_over_half l) (le_trans (le_of_eq border-home) (go f))
    where
      go : (n : ℕ) → home ≤ (home * 2048 + n) / 2048
      go n = omega arith
  kept_up (whole n e) =
      exact (back (f) n is) (up_exact third_num third_den b (2 ^ 64) excess (home * 2048) a (home * 2048 + f)
      (1024 * third_num * b + a * third_den) f excess-is refl refl (le_of_eq (units a b n e ∙ ap (λ (x : ℕ). x * b) (sym is))))
    where
      is : f ≡ n * 2048
      is = ap (λ (x : ℕ). x / b) (units a b n e) ∙ mul-div_cancel (n * 2048) bp

      back : (g n : ℕ) → g ≡ n * 2048 → home * 2048 + g ≡ (home * 2048 + g) / 2048 * 2048
      back g n e = omega arith

  pub up_found : Fine a b → Placed b (raised false a b) (1024 * third_num * b + a * third_den)
  unfolding raised f
  up_found fine =
      found b (home * 2048 + f) (1024 * third_num * b + a * third_den) bp up_range
      (up_not_above third_num third_den b (2 ^ 64) excess (home * 2048) a (home * 2048 + f) (1024 * third_num * b + a * third_den) f excess-is
      refl refl (div-mul-le_self (a * 2 ^ 64) b))
      (up_not_below third_num third_den b (2 ^ 64) excess (home * 2048) a (home * 2048 + f) (1024 * third_num * b + a * third_den) f excess-is
      refl refl (le_of_lt (lt-div-mul-add {a = a * 2 ^ 64} bp)))
      (kept_up fine)

module _ (a b : ℕ) (bp : 0 < b) (most : a ≤ 708 * b) where
  g : ℕ
  g = (a * 2 ^ 64 + (b - 1)) / b

  -- a / b at most m / 2^64 gives g at most m
  g_most : (m : ℕ) → a * 2 ^ 64 ≤ m * b → g ≤ m
  unfolding g
  g_most m h = up_most m b (a * 2 ^ 64) bp h

  end : a * 2 ^ 64 ≤ 708 * 2 ^ 64 * b
  end = le_trans (mul-le-mul_right (2 ^ 64) most) (le_of_eq (go b))
    where
      go : (b : ℕ) → 708 * b * 2 ^ 64 ≡ 708 * 2 ^ 64 * b
      go b = omega arith

  g_in_range : g ≤ 708 * 2 ^ 64
  g_in_range = g_most (708 * 2 ^ 64) end

  down_range_of : (n : ℕ) → n ≤ 708 * 2 ^ 64 → InRange ((home * 2048 - n) / 2048)
  down_range_of n h = record { from = omega arith; to = omega arith }

  pub down_range : InRange (raised true a b / 2048)
  unfolding raised g
  down_range = down_range_of g g_in_range

  sum_is : home * 2048 - g + g ≡ home * 2048
  sum_is = go g g_in_range
    where
      go : (n : ℕ) → n ≤ 708 * 2 ^ 64 → home * 2048 - n + n ≡ home * 2048
      go n h = omega arith

  pub down_fits : a * third_den ≤ 1024 * third_num * b
  down_fits =
      le_trans (mul-le-mul_right third_den most) (le_trans (le_of_eq (mul_right_comm 708 b third_den)) (mul-le-mul_right b end_in_range))

  taken : 1024 * third_num * b - a * third_den + a * third_den ≡ 1024 * third_num * b
  taken = sub-add_cancel down_fits

  kept_down : Fine a b → Kept b (home * 2048 - g) (1024 * third_num * b - a * third_den)
  unfolding g
  kept_down fine = go fine (eq-zero-or-pos a)
    where
      less : (U A W : ℕ) → U + A ≡ W → 0 < A → U < W
      less U A W e p = omega arith

      half : 2 * a < b → a * 2 ^ 64 ≤ 2 ^ 63 * b
      half l = omega arith

      room : (m n : ℕ) → m + 2 ^ 52 ≤ home → n ≤ 2 ^ 63 → m ≤ (home * 2048 - n) / 2048
      room m n h l = omega arith

      back : (h n : ℕ) → h ≡ n * 2048 → h ≤ 708 * 2 ^ 64 → home * 2048 - h ≡ (home * 2048 - h) / 2048 * 2048
      back h n e l = omega arith

      pred : (b : ℕ) → 0 < b → b - 1 < b
      pred b p = omega arith

      at_whole : (n : ℕ) → a * 2 ^ 53 ≡ n * b → Kept b (home * 2048 - g) (1024 * third_num * b - a * third_den)
      at_whole n e =
          exact (back g n is g_in_range)
          (down_exact third_num third_den b (2 ^ 64) excess (home * 2048) a (home * 2048 - g) (1024 * third_num * b - a * third_den) g excess-is
          sum_is taken (le_of_eq (ap (λ (x : ℕ). x * b) is ∙ sym (units a b n e))))
        where
          is : g ≡ n * 2048
          is = ap (λ (x : ℕ). (x + (b - 1)) / b) (units a b n e) ∙ digits_div (n * 2048) {m = b} {r = b - 1} (pred b bp)

      go : Fine a b → (a ≡ zero) ⊎ (zero < a) → Kept b (home * 2048 - g) (1024 * third_num * b - a * third_den)
      go (whole n e) z = at_whole n e
      go (low l) (inl z) = at_whole 0 (ap (λ (x : ℕ). x * 2 ^ 53) z ∙ sym (zero-mul b))
      go (low l) (inr p) =
          known 1023 (less _ _ _ taken (mul-pos p den_pos)) (room (border 1023) g border_before_home (g_most (2 ^ 63) (half l)))

  pub down_found : Fine a b → Placed b (raised true a b) (1024 * third_num * b - a * third_den)
  unfolding raised g
  down_found fine =
      found b (home * 2048 - g) (1024 * third_num * b - a * third_den) bp down_range
      (down_not_above third_num third_den b (2 ^ 64) excess (home * 2048) a (home * 2048 - g) (1024 * third_num * b - a * third_den) g excess-is
      sum_is taken (up_reaches (708 * 2 ^ 64) b (a * 2 ^ 64) bp end))
      (down_not_below third_num third_den b (2 ^ 64) excess (home * 2048) a (home * 2048 - g) (1024 * third_num * b - a * third_den) g excess-is
      sum_is taken (le_of_lt (up_below (708 * 2 ^ 64) b (a * 2 ^ 64) bp end)))
      (kept_down fine)
