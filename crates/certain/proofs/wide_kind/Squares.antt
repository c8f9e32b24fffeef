-- The rounded sum, left to right from +0, of up to 32 squares: near the exact one. Assumes nothing.
use mathlib.Core.Path.{◌≡◌, refl, sym, ap, subst}
use mathlib.Core.Logic.{◌⊎◌, inl, inr}
use Prim.Native.Nat.{ℕ, zero, suc, ◌+◌, ◌*◌, ◌^◌, ◌≤◌, ◌<◌}
use native.Mathlib.Nat.{le_trans, le_of_eq, le_refl, le_step, le_of_suc-le, le-add_right, le-add_left, mul-le-mul_left, mul-le-mul_right}
use native.Mathlib.Nat.{le_of_mul-le-mul_right, eq-zero-or-pos}
use native.Mathlib.Omega.{arith}
use lib.Dec.{lit≤}
use lib.Pow.{pow_pos}
use lib.Ieee.{Float, binary64}
use Rattle.arith.specs.Turns.{iter}
use Rattle.double.specs.Operators.{◌⊕◌, ◌⊗◌}
use Rattle.double.specs.Numbers.{#0}
use Rattle.double.specs.Fields.{Units}
use Rattle.rounding.specs.Within.{Within}
use Rattle.rounding.proofs.errors.Added.{Totalled, total_near}
use Rattle.certain.proofs.power.Coordinates.{Fine}
use Rattle.certain.proofs.power.Decided.{Squared, zero-units}
use Rattle.certain.specs.wide.Sums.{total}
use Rattle.certain.specs.wide.Meaning.{most_tail}

abbrev U : ℕ
U = 2 ^ 1074

-- the sum of n squares so far: within 3n parts of 2^52 of c, which is 0 or from 2^-1000 on
pub record Summed (q : Float) (c n : ℕ) : Type 0 where
  pub units : ℕ
  pub is : Units q units
  pub near : Within (2 ^ 52 * (units * U)) (2 ^ 52 * c) (3 * n * c)
  pub least : 0 < c → 2 ^ 74 * U ≤ c
  pub most : c ≤ n * (2 ^ 1000 * (U * U))

-- ---- one more, over plain numbers: v and g units are near c and d, t is their rounded sum

-- c and d both 0
none_more : (t v g : ℕ) → v ≡ 0 → g ≡ 0 → t * 2 ^ 53 ≤ (v + g) * 2 ^ 53 + (v + g + 2 ^ 52) → t ≡ 0
none_more t v g e f h = go t (subst (λ (z : ℕ). t * 2 ^ 53 ≤ z * 2 ^ 53 + (z + 2 ^ 52)) (none v g e f) h)
  where
    none : (v g : ℕ) → v ≡ 0 → g ≡ 0 → v + g ≡ 0
    none v g e f = omega arith

    go : (t : ℕ) → t * 2 ^ 53 ≤ 0 * 2 ^ 53 + (0 + 2 ^ 52) → t ≡ 0
    go t h = omega arith

-- x = t·U, y = v·U, w = g·U; the rounding s is at most 3 (c + d)
joined-above : (X Y W C D k c d s : ℕ) → 2 * X ≤ 2 * (Y + W) + s → s ≤ 3 * (c + d) → Y ≤ C + k → W ≤ D + d → X ≤ C + D + (k + 3 * (c + d))
joined-above X Y W C D k c d s h i j l = omega arith

joined-below : (X Y W C D k c d s : ℕ) → 2 * (Y + W) ≤ 2 * X + s → s ≤ 3 * (c + d) → C ≤ Y + k → D ≤ W + d → C + D ≤ X + (k + 3 * (c + d))
joined-below X Y W C D k c d s h i j l = omega arith

halved : (x y w s : ℕ) → x * 2 ^ 53 ≤ (y + w) * 2 ^ 53 + s → 2 * (2 ^ 52 * x) ≤ 2 * (2 ^ 52 * y + 2 ^ 52 * w) + s
halved x y w s h = omega arith

halved_back : (x y w s : ℕ) → (y + w) * 2 ^ 53 ≤ x * 2 ^ 53 + s → 2 * (2 ^ 52 * y + 2 ^ 52 * w) ≤ 2 * (2 ^ 52 * x) + s
halved_back x y w s h = omega arith

spread : (c d : ℕ) → 2 ^ 52 * (c + d) ≡ 2 ^ 52 * c + 2 ^ 52 * d
spread c d = omega arith

more_parts : (n c d : ℕ) → 3 * n * c + 3 * (c + d) ≤ 3 * suc n * (c + d)
more_parts n c d = omega arith

-- what is near c is at most 2c
twice_most : (y c n : ℕ) → n ≤ most_tail → 2 ^ 52 * y ≤ 2 ^ 52 * c + 3 * n * c → y ≤ 2 * c
twice_most y c n l h = go y c (3 * n * c) (mul-le-mul_right c (mul-le-mul_left 3 l)) h
  where
    go : (y c z : ℕ) → z ≤ 3 * most_tail * c → 2 ^ 52 * y ≤ 2 ^ 52 * c + z → y ≤ 2 * c
    go y c z i j = omega arith

once_most : (w d : ℕ) → 2 ^ 52 * w ≤ 2 ^ 52 * d + d → w ≤ 2 * d
once_most w d h = omega arith

error_most : (y w c d u : ℕ) → y ≤ 2 * c → w ≤ 2 * d → 2 ^ 74 * u ≤ c + d → y + w + 2 ^ 52 * u ≤ 3 * (c + d)
error_most y w c d u i j l = omega arith

scaled-above :
    (t v g z : ℕ) → t * 2 ^ 53 ≤ (v + g) * 2 ^ 53 + (v + g + 2 ^ 52)
    → t * z * 2 ^ 53 ≤ (v * z + g * z) * 2 ^ 53 + (v * z + g * z + 2 ^ 52 * z)
scaled-above t v g z h = go (mul-le-mul_right z h)
  where
    go :
        t * 2 ^ 53 * z ≤ ((v + g) * 2 ^ 53 + (v + g + 2 ^ 52)) * z
        → t * z * 2 ^ 53 ≤ (v * z + g * z) * 2 ^ 53 + (v * z + g * z + 2 ^ 52 * z)
    go i = omega arith

scaled-below :
    (t v g z : ℕ) → (v + g) * 2 ^ 53 ≤ t * 2 ^ 53 + (v + g + 2 ^ 52) → (v * z + g * z) * 2 ^ 53
    ≤ t * z * 2 ^ 53 + (v * z + g * z + 2 ^ 52 * z)
scaled-below t v g z h = go (mul-le-mul_right z h)
  where
    go :
        (v + g) * 2 ^ 53 * z ≤ (t * 2 ^ 53 + (v + g + 2 ^ 52)) * z → (v * z + g * z) * 2 ^ 53
        ≤ t * z * 2 ^ 53 + (v * z + g * z + 2 ^ 52 * z)
    go i = omega arith

zero_near : (m z : ℕ) → Within (2 ^ 52 * (0 * z)) (2 ^ 52 * 0) (m * 0)
zero_near m z = record { not-above = omega arith; not-below = omega arith }

module _ (q r : Float) (c d n : ℕ) (few : n ≤ most_tail) (s : Summed q c n) (f : Fine r d) where
  abbrev v : ℕ
  v = s.units

  abbrev g : ℕ
  g = f.units

  v_most : v * U ≤ 2 * c
  v_most = twice_most (v * U) c n few s.near.not-above

  g_most : g * U ≤ 2 * d
  g_most = once_most (g * U) d f.near.not-above

  v_room : v ≤ 2 * most_tail * (2 ^ 1000 * U)
  v_room =
      le_of_mul-le-mul_right {k = U}
      (le_trans v_most (le_trans (mul-le-mul_left 2 (le_trans s.most (mul-le-mul_right (2 ^ 1000 * (U * U)) few)))
      (le_of_eq (regrouped (2 ^ 1000) U))))
      (pow_pos 1074)
    where
      regrouped : (K z : ℕ) → 2 * (most_tail * (K * (z * z))) ≡ 2 * most_tail * (K * z) * z
      regrouped K z = omega arith

  room : v + g ≤ 2 ^ 1023 * U
  room = go v g (2 ^ 1000 * U) v_room f.most
    where
      go : (v g m : ℕ) → v ≤ 2 * most_tail * m → g ≤ 1024 * m → v + g ≤ 8388608 * m
      go v g m h k = omega arith

  added : Totalled binary64 (q ⊕ r) (v + g)
  added = total_near binary64 q r v g s.is f.is room

  abbrev t : ℕ
  t = added.units

  least' : 0 < c + d → 2 ^ 74 * U ≤ c + d
  least' p = go (eq-zero-or-pos c)
    where
      second : (c d : ℕ) → c ≡ 0 → 0 < c + d → 0 < d
      second c d e p = omega arith

      go : (c ≡ 0) ⊎ (0 < c) → 2 ^ 74 * U ≤ c + d
      go (inl e) = le_trans (f.least (second c d e p)) (le-add_left d c)
      go (inr l) = le_trans (s.least l) (le-add_right c d)

  none_of : (v c n z : ℕ) → 0 < z → c ≡ 0 → 2 ^ 52 * (v * z) ≤ 2 ^ 52 * c + n * c → v ≡ 0
  none_of zero c n z p e h = refl
  none_of (suc v) c n z p e h = absurd (go v z p (subst (λ (y : ℕ). 2 ^ 52 * (suc v * z) ≤ 2 ^ 52 * y + n * y) e h))
    where
      go : (v z : ℕ) → 0 < z → 2 ^ 52 * (suc v * z) ≤ 2 ^ 52 * 0 + n * 0 → ⊥
      go v z p h = omega arith

  near' : (c + d ≡ 0) ⊎ (0 < c + d) → Within (2 ^ 52 * (t * U)) (2 ^ 52 * (c + d)) (3 * suc n * (c + d))
  near' (inl e) =
      let zc : c ≡ 0 = first c d e in
      let zd : d ≡ 0 = second c d e in
      let zt : t ≡ 0 =
      none_more t v g (none_of v c (3 * n) U (pow_pos 1074) zc s.near.not-above)
      (none_of g d 1 U (pow_pos 1074) zd (one_time d f.near.not-above))
      added.near.not-above in
      rw (zt, e) (zero_near (3 * suc n) U)
    where
      first : (c d : ℕ) → c + d ≡ 0 → c ≡ 0
      first c d e = omega arith

      second : (c d : ℕ) → c + d ≡ 0 → d ≡ 0
      second c d e = omega arith

      one_time : (d : ℕ) {x : ℕ} → x ≤ 2 ^ 52 * d + d → x ≤ 2 ^ 52 * d + 1 * d
      one_time d h = omega arith
  near' (inr p) = record {
    not-above =
        le_trans
        (joined-above (2 ^ 52 * (t * U)) (2 ^ 52 * (v * U)) (2 ^ 52 * (g * U)) (2 ^ 52 * c) (2 ^ 52 * d) (3 * n * c) c d _
        (halved (t * U) (v * U) (g * U) _ (scaled-above t v g U added.near.not-above))
        (error_most (v * U) (g * U) c d U v_most g_most (least' p))
        s.near.not-above f.near.not-above)
        (le_trans (le_of_eq (ap (λ (z : ℕ). z + (3 * n * c + 3 * (c + d))) (sym (spread c d))))
        (more (2 ^ 52 * (c + d)) (more_parts n c d)));
    not-below =
        le_trans (le_of_eq (spread c d))
        (le_trans
        (joined-below (2 ^ 52 * (t * U)) (2 ^ 52 * (v * U)) (2 ^ 52 * (g * U)) (2 ^ 52 * c) (2 ^ 52 * d) (3 * n * c) c d _
        (halved_back (t * U) (v * U) (g * U) _ (scaled-below t v g U added.near.not-below))
        (error_most (v * U) (g * U) c d U v_most g_most (least' p))
        s.near.not-below f.near.not-below)
        (more (2 ^ 52 * (t * U)) (more_parts n c d)));
  }
    where
      more : {x y : ℕ} (a : ℕ) → x ≤ y → a + x ≤ a + y
      more a h = omega arith

  pub one_more : Summed (q ⊕ r) (c + d) (suc n)
  one_more = record {
    units = t;
    is = added.is;
    near = near' (eq-zero-or-pos (c + d));
    least = least';
    most = go c d n (2 ^ 1000 * (U * U)) s.most f.size;
  }
    where
      go : (c d n z : ℕ) → c ≤ n * z → d ≤ z → c + d ≤ suc n * z
      go c d n z h k = omega arith

-- ---- all of them

pub none_yet : Summed #0 0 0
none_yet = record {
  units = 0;
  is = zero-units;
  near = record { not-above = go U; not-below = go' U };
  least = λ p. absurd (never p);
  most = lit≤ tt;
}
  where
    go : (z : ℕ) → 2 ^ 52 * (0 * z) ≤ 2 ^ 52 * 0 + 3 * 0 * 0
    go z = omega arith

    go' : (z : ℕ) → 2 ^ 52 * 0 ≤ 2 ^ 52 * (0 * z) + 3 * 0 * 0
    go' z = omega arith

    never : 0 < 0 → ⊥
    never p = omega arith

pub squares_summed :
    (x : ℕ → Float) (w : ℕ → ℕ) (n : ℕ) → n ≤ most_tail → ((i : ℕ) → i < n → Fine (x i ⊗ x i) (w i * w i))
    → Summed (iter (λ (i : ℕ) (t : Float). t ⊕ x i ⊗ x i) #0 n) (total (λ (i : ℕ). w i * w i) n) n
unfolding iter total
squares_summed x w zero l h = none_yet
squares_summed x w (suc n) l h =
    one_more _ (x n ⊗ x n) _ (w n * w n) n (le_of_suc-le l) (squares_summed x w n (le_of_suc-le l) (λ i k. h i (le_step k)))
    (h n (le_refl (suc n)))

-- within 2^-45 after all
pub squared : {q : Float} {c n : ℕ} → n ≤ most_tail → Summed q c n → Squared q c
squared {q} {c} {n} l s = record {
  units = s.units;
  is = s.is;
  near = go (s.units * U) c (3 * n * c) (mul-le-mul_right c (mul-le-mul_left 3 l)) s.near;
  least = s.least;
  most =
      le_of_mul-le-mul_right {k = U}
      (le_trans (twice_most (s.units * U) c n l s.near.not-above)
      (le_trans (mul-le-mul_left 2 (le_trans s.most (mul-le-mul_right (2 ^ 1000 * (U * U)) l))) (last (2 ^ 1000) U)))
      (pow_pos 1074);
}
  where
    go : (x c k : ℕ) → k ≤ 3 * most_tail * c → Within (2 ^ 52 * x) (2 ^ 52 * c) k → Within (2 ^ 45 * x) (2 ^ 45 * c) c
    go x c k l h = record { not-above = omega (arith, h.not-above); not-below = omega (arith, h.not-below) }

    last : (K z : ℕ) → 2 * (most_tail * (K * (z * z))) ≤ 1024 * K * z * z
    last K z = omega arith
