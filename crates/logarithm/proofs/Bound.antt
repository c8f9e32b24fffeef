-- The answer for m·2^(k-1126) is within 2^-44·max(1, |L|) of L, L taken with m / 2^52 and the exponent k - 1074; its sign is that of the
-- exponent. Assumes nothing.
use Rattle.std.proofs.Common.{◌≡◌, ℕ, zero, suc, ◌+◌, ◌-◌, ◌*◌, ◌/◌, ◌^◌, ◌<◌, ◌≤◌, max, true, false, not, sym, refl, ap, subst, le_trans, le_of_eq, le_of_lt, mul-le-mul_right, mul-le-mul_left, one-mul, arith, leb→le}
use native.Mathlib.Nat.{le-max_left, le-max_right}
use lib.Ieee.{Float, nan, inf, fin, neg}
use Rattle.double.specs.Fields.{Sized, Units}
use Rattle.rounding.specs.Within.{Within}
use Rattle.series.specs.Series.{sum, odd_product, term, s_num, s_den, Signed, Same, lAt, magnitude}
use Rattle.series.proofs.Order.{S-at_most_third}
use Rattle.series.proofs.SignedFractions.{most_moves, at_most_moves, at_least_moves}
use Rattle.series.proofs.change.LSizes.{third-one}
use Rattle.logarithm.specs.Steps.{scaled_of, mantissa_of, ln2}
use Rattle.logarithm.specs.Bound.{Close, Negative, NotNegative}
use Rattle.logarithm.proofs.Mantissas.{mantissa_fits}
use Rattle.logarithm.proofs.Sums.{part, turns, over, q, up_above, up_below, down_above, down_below, turns_outweigh}
use Rattle.logarithm.proofs.Fractions.{NearFraction, scaled_near, some-units, zero-scaled}
use Rattle.logarithm.proofs.Slack.{answer_not_above, answer_not_below}

-- ---- |L| = a/o, and s / 2^53 within a / 2^53 + 5/2 units of it

pub record SizeClose (x : Float) (s a o : ℕ) : Type 0 where
  pub units : ℕ
  pub value : Units x units
  pub positive : 0 < s → 0 < units
  pub not-above : 2 ^ 44 * (units * o) ≤ 2 ^ 44 * (a * 2 ^ 1074) + max o a * 2 ^ 1074
  pub not-below : 2 ^ 44 * (a * 2 ^ 1074) ≤ 2 ^ 44 * (units * o) + max o a * 2 ^ 1074

size_close_of :
    (s a o h : ℕ) (x : Float) → 2 * (s * o) ≤ 2 * 2 ^ 53 * a + 2 * a + 5 * o → 2 * 2 ^ 53 * a ≤ 2 * (s * o) + (2 * a + 5 * o) → Units x h
    → (0 < s → 0 < h)
    → h * 2 ^ 53 * 2 ^ 53 * 2 ^ 53 ≤ s * 2 ^ 1074 * (2 ^ 53 + 1) * (2 ^ 53 + 1)
    → s * 2 ^ 1074 * 2 ^ 53 * 2 ^ 53 ≤ h * 2 ^ 53 * 2 ^ 53 * 2 ^ 53 + s * 2 ^ 1074 * (2 * 2 ^ 53 + 1) → SizeClose x s a o
size_close_of s a o h x k₁ k₃ v p k₂ k₄ = record {
  units = h;
  value = v;
  positive = p;
  not-above = answer_not_above (2 ^ 44) (2 ^ 53) (2 ^ 1074) h s a o (max o a) (omega arith) refl (le-max_right o a) (le-max_left o a) k₁ k₂;
  not-below =
      answer_not_below (2 ^ 44) (2 ^ 53) (2 ^ 1074) h s a o (max o a) (omega arith) refl (le-max_right o a) (le-max_left o a) k₁ k₃ k₄;
}

size_close :
    (s a o : ℕ) → s < 2 ^ 64 → 2 * (s * o) ≤ 2 * 2 ^ 53 * a + 2 * a + 5 * o → 2 * 2 ^ 53 * a ≤ 2 * (s * o) + (2 * a + 5 * o)
    → SizeClose (scaled_of s) s a o
size_close zero a o hs k₁ k₃ = size_close_of 0 a o 0 (scaled_of 0) k₁ k₃ zero-scaled (λ h. h) (le_of_eq refl) (le_of_eq refl)
size_close (suc s) a o hs k₁ k₃ =
    let r : NearFraction (suc s) (scaled_of (suc s)) = scaled_near (suc s) (omega arith) hs in
    size_close_of (suc s) a o r.units (scaled_of (suc s)) k₁ k₃ r.value
    (λ h. some-units (suc s) r.units (omega arith) r.not-below) r.not-above r.not-below

-- ---- S(1/3) is at least ½; it is at most 1 (series' change/LSizes)

third_half : s_den 3 ≤ 2 * s_num 1 3
unfolding s_num s_den sum term odd_product
third_half = leb→le _ _ tt

turns_large : (n m : ℕ) → n * over m ≤ 2 * turns n m
turns_large n m = omega (arith, mul-le-mul_left (n * s_den (m + 2 ^ 52)) third_half)

part-le : (m : ℕ) → 2 ^ 52 ≤ m → m < 2 ^ 53 → part m ≤ turns 1 m
part-le m lo hi = le_trans (S-at_most_third m (2 ^ 52) (omega arith) lo (le_of_lt hi)) (le_of_eq (sym (one-mul _)))

part_small : (m : ℕ) → 2 ^ 52 ≤ m → m < 2 ^ 53 → part m ≤ over m
part_small m lo hi = le_trans (part-le m lo hi) (omega (arith, mul-le-mul_right (s_den (m + 2 ^ 52)) third-one))

part_le_turns : (n m : ℕ) → 1 ≤ n → 2 ^ 52 ≤ m → m < 2 ^ 53 → part m ≤ turns n m
part_le_turns n m h lo hi = le_trans (part-le m lo hi) (mul-le-mul_right (s_num 1 3 * s_den (m + 2 ^ 52)) h)

-- ---- from 1 up

up_not_above :
    (s t p o n : ℕ) → 2 * s * o ≤ 2 ^ 54 * (t + p) + (n + 1) * o → n * o ≤ 2 * t → 2 * (s * o) ≤ 2 * 2 ^ 53 * (t + p) + 2 * (t + p) + 5 * o
up_not_above s t p o n h k = omega arith

up_not_below :
    (s t p o n : ℕ) → 2 ^ 54 * (t + p) ≤ (2 * s + (n + 3)) * o → n * o ≤ 2 * t → 2 * 2 ^ 53 * (t + p) ≤ 2 * (s * o) + (2 * (t + p) + 5 * o)
up_not_below s t p o n h k = omega arith

up_size :
    (n m : ℕ) → n ≤ 1023 → 2 ^ 52 ≤ m → m < 2 ^ 53 → SizeClose (scaled_of (n * ln2 + q m)) (n * ln2 + q m) (turns n m + part m) (over m)
up_size n m hn lo hi =
    size_close (n * ln2 + q m) (turns n m + part m) (over m)
    (small (n * ln2) (mantissa_of m) (mul-le-mul_right ln2 hn) (mantissa_fits m lo hi))
    (up_not_above (n * ln2 + q m) (turns n m) (part m) (over m) n (up_below n m lo hi) (turns_large n m))
    (up_not_below (n * ln2 + q m) (turns n m) (part m) (over m) n (up_above n m lo hi) (turns_large n m))
  where
    small : (a b : ℕ) → a ≤ 1023 * ln2 → b < 2 ^ 64 → a + b / 2 ^ 11 < 2 ^ 64
    small a b h k = omega arith

-- ---- below 1: -L = (turns - part) / over

sum_not_above :
    (s t p o n a q : ℕ) → q ≤ a → s ≡ a - q → p ≤ t → 2 * a * o + 2 ^ 54 * p ≤ 2 ^ 54 * t + (2 * q + (n + 3)) * o → n * o ≤ 2 * t → p ≤ o
    → 2 * (s * o) ≤ 2 * 2 ^ 53 * (t - p) + 2 * (t - p) + 5 * o
sum_not_above s t p o n a q hq es hp k b c =
    let e : s + q ≡ a = omega arith in
    let e' : 2 * ((s + q) * o) ≡ 2 * (a * o) = ap (λ (x : ℕ). 2 * (x * o)) e in
    omega arith

sum_not_below :
    (s t p o n a q : ℕ) → q ≤ a → s ≡ a - q → p ≤ t → 2 ^ 54 * t + 2 * q * o ≤ 2 ^ 54 * p + (2 * a + (n + 1)) * o → n * o ≤ 2 * t → p ≤ o
    → 2 * 2 ^ 53 * (t - p) ≤ 2 * (s * o) + (2 * (t - p) + 5 * o)
sum_not_below s t p o n a q hq es hp k b c =
    let e : s + q ≡ a = omega arith in
    let e' : 2 * ((s + q) * o) ≡ 2 * (a * o) = ap (λ (x : ℕ). 2 * (x * o)) e in
    omega arith

down_size :
    (n m : ℕ) → 1 ≤ n → n ≤ 1074 → 2 ^ 52 ≤ m → m < 2 ^ 53
    → SizeClose (scaled_of (n * ln2 - q m)) (n * ln2 - q m) (turns n m - part m) (over m)
down_size n m n1 hn lo hi =
    let hq : q m ≤ n * ln2 = le_of_lt (turns_outweigh n m n1 lo hi) in
    let pt : part m ≤ turns n m = part_le_turns n m n1 lo hi in
    size_close (n * ln2 - q m) (turns n m - part m) (over m) (small (n * ln2) (q m) (mul-le-mul_right ln2 hn))
    (sum_not_above _ (turns n m) (part m) (over m) n (n * ln2) (q m) hq refl pt (down_below n m lo hi) (turns_large n m)
    (part_small m lo hi))
    (sum_not_below _ (turns n m) (part m) (over m) n (n * ln2) (q m) hq refl pt (down_above n m lo hi) (turns_large n m)
    (part_small m lo hi))
  where
    small : (a b : ℕ) → a ≤ 1074 * ln2 → a - b < 2 ^ 64
    small a b h = omega arith

-- ---- with its sign

value_of_neg : (x : Float) (h : ℕ) → Units x h → Sized (neg x) true h
unfolding neg
value_of_neg nan h v = absurd v
value_of_neg (inf s) h v = absurd v
value_of_neg (fin s m e) h v = (ap not v.0, v.1)

above_shape :
    (y w h o p l a x : ℕ) → p ≡ l + a → y * (h * o) ≤ y * (a * w) + x * w → y * (a * w) ≤ y * (h * o) + x * w
    → Within (y * (h * o + l * w)) (y * (0 * o + p * w)) (x * w)
above_shape y w h o p l a x e hi lo =
    record { not-above = omega (arith, ap (λ (t : ℕ). y * w * t) e); not-below = omega (arith, ap (λ (t : ℕ). y * w * t) e) }

below_shape :
    (y w h o p l a x : ℕ) → l ≡ p + a → y * (h * o) ≤ y * (a * w) + x * w → y * (a * w) ≤ y * (h * o) + x * w
    → Within (y * (0 * o + l * w)) (y * (h * o + p * w)) (x * w)
below_shape y w h o p l a x e hi lo =
    record { not-above = omega (arith, ap (λ (t : ℕ). y * w * t) e); not-below = omega (arith, ap (λ (t : ℕ). y * w * t) e) }

module _ (l : Signed) (x : Float) (s a : ℕ) (c : SizeClose x s a l.over) where
  close_above : l.plus ≡ l.less + a → Close x l
  close_above e = record {
    sign = false;
    units = c.units;
    value = c.value;
    distance =
        subst
        (λ (t : ℕ). Within (2 ^ 44 * (c.units * l.over + l.less * 2 ^ 1074)) (2 ^ 44 * (0 * l.over + l.plus * 2 ^ 1074))
        (max l.over t * 2 ^ 1074))
        (apart l.plus l.less e)
        (above_shape (2 ^ 44) (2 ^ 1074) c.units l.over l.plus l.less a (max l.over a) e c.not-above c.not-below);
  }
    where
      apart : (p l : ℕ) → p ≡ l + a → a ≡ p - l + (l - p)
      apart p l e = omega arith

  close_below : l.less ≡ l.plus + a → Close (neg x) l
  close_below e = record {
    sign = true;
    units = c.units;
    value = value_of_neg x c.units c.value;
    distance =
        subst
        (λ (t : ℕ). Within (2 ^ 44 * (0 * l.over + l.less * 2 ^ 1074)) (2 ^ 44 * (c.units * l.over + l.plus * 2 ^ 1074))
        (max l.over t * 2 ^ 1074))
        (apart l.plus l.less e)
        (below_shape (2 ^ 44) (2 ^ 1074) c.units l.over l.plus l.less a (max l.over a) e c.not-above c.not-below);
  }
    where
      apart : (p l : ℕ) → l ≡ p + a → a ≡ p - l + (l - p)
      apart p l e = omega arith

module _ (n m : ℕ) (lo : 2 ^ 52 ≤ m) (hi : m < 2 ^ 53) where
  pub up_close : n ≤ 1023 → Close (scaled_of (n * ln2 + q m)) (lAt n 0 m (2 ^ 52))
  unfolding lAt
  up_close hn = close_above (lAt n 0 m (2 ^ 52)) _ _ (turns n m + part m) (up_size n m hn lo hi) (omega arith)

  pub up_sign : n ≤ 1023 → NotNegative (scaled_of (n * ln2 + q m))
  up_sign hn = let c = up_size n m hn lo hi in record { units = c.units; value = c.value }

  pub down_close : 1 ≤ n → n ≤ 1074 → Close (neg (scaled_of (n * ln2 - q m))) (lAt 0 n m (2 ^ 52))
  unfolding lAt
  down_close n1 hn =
      close_below (lAt 0 n m (2 ^ 52)) _ _ (turns n m - part m) (down_size n m n1 hn lo hi)
      (split (turns n m) (part m) (part_le_turns n m n1 lo hi))
    where
      split : (t p : ℕ) → p ≤ t → t ≡ 0 * (s_num 1 3 * s_den (m + 2 ^ 52)) + p + (t - p)
      split t p h = omega arith

  pub down_sign : 1 ≤ n → n ≤ 1074 → Negative (neg (scaled_of (n * ln2 - q m)))
  down_sign n1 hn =
      let c = down_size n m n1 hn lo hi in
      record {
        units = c.units;
        positive = c.positive (more (n * ln2) (q m) (turns_outweigh n m n1 lo hi));
        value = value_of_neg _ c.units c.value;
      }
    where
      more : (a b : ℕ) → b < a → 0 < a - b
      more a b h = omega arith

-- ---- Close to L however L is written

-- the products regrouped
apart_products : (y w g o l : ℕ) → y * (g * o + l * w) ≡ y * g * o + y * w * l
apart_products y w g o l = omega arith

module _ (y w g h E E' : ℕ) {x z : Signed} (e : Same x z) (px : 0 < x.over) (m : E * z.over ≤ E' * x.over) where
  distance_moves :
      Within (y * (g * x.over + x.less * w)) (y * (h * x.over + x.plus * w)) E
      → Within (y * (g * z.over + z.less * w)) (y * (h * z.over + z.plus * w)) E'
  distance_moves c = record {
    not-above =
        rw (apart_products y w g z.over z.less, apart_products y w h z.over z.plus)
        (at_most_moves e px (y * g) (y * h) (y * w) E E' m
        (rw (← apart_products y w g x.over x.less, ← apart_products y w h x.over x.plus) c.not-above));
    not-below =
        rw (apart_products y w g z.over z.less, apart_products y w h z.over z.plus)
        (at_least_moves e px (y * g) (y * h) (y * w) E E' m
        (rw (← apart_products y w g x.over x.less, ← apart_products y w h x.over x.plus) c.not-below));
  }

pub close_moves : (r : Float) {x y : Signed} → 0 < x.over → 0 < y.over → Same x y → Close r x → Close r y
close_moves r {x} {y} px py e c = record {
  sign = c.sign;
  units = c.units;
  value = c.value;
  distance =
      distance_moves (2 ^ 44) (2 ^ 1074) _ _ (max x.over (magnitude x) * 2 ^ 1074) (max y.over (magnitude y) * 2 ^ 1074) e px
      (times (2 ^ 1074) _ y.over _ x.over (most_moves e py)) c.distance;
}
  where
    times : (w a b c d : ℕ) → a * b ≤ c * d → a * w * b ≤ c * w * d
    times w a b c d h = omega (arith, mul-le-mul_right w h)
