-- L grows by not less than h/(x+h), but for one part in 3^80: L(x + h) is at least L(x) + (1 - 3^-80)·h/(x+h), for h up to x. Exact, on any
-- fractions. The companion of series' change/Lipschitz, and as that walked in two steps where x + h has the next k. Assumes nothing.
use Rattle.std.proofs.Common.{◌≡◌, ℕ, suc, ◌+◌, ◌*◌, ◌^◌, ◌<◌, ◌≤◌, sym, refl, ap, ◌∙◌, subst, le_of_lt, mul-le-mul_right, add-mul, mul-le-mul_left, mul-pos, mul-add, le_of_mul-le-mul_right, arith, pow_pos}
use Rattle.series.specs.Series.{Signed, Same, s_num, s_den, lOf, rise, fall}
use Rattle.series.proofs.Terms.{s_den-pos}
use Rattle.series.proofs.Order.{S-grows, S-of_same}
use Rattle.series.proofs.change.Binades.{by, walked}
use Rattle.series.proofs.change.Lipschitz.{S-at_zero, before_shape, after_shape}
use Rattle.exponential.specs.inverse.Inverse.{RisesBy}
use Rattle.exponential.proofs.inverse.SFromBelow.{rest, S-from_below}

-- ---- what is said holds of the numbers

exchanged : (a b c d e f g : ℕ) → a + b + e ≤ c + d → c + f ≡ g + b → a + f + e ≤ g + d
exchanged a b c d e f g h k = omega arith

second_moves :
    (k e p l o q m w q' m' w' : ℕ) → 0 < w → q * w' + m' * w ≡ q' * w + m * w'
    → k * (p * w + m * o) + e * (o * w) ≤ k * (q * o + l * w) → k * (p * w' + m' * o) + e * (o * w') ≤ k * (q' * o + l * w')
second_moves k e p l o q m w q' m' w' pw y h =
    le_of_mul-le-mul_right {k = w}
    (goal k e p l o q' m' w w' (exchanged (k * p * w * w') (k * m * o * w') (k * q * o * w') (k * l * w * w') (e * o * w * w')
    (k * m' * o * w) (k * q' * o * w)
    (given k e p l o q m w w' (mul-le-mul_right w' h)) (cross k o q m w q' m' w' (ap (λ (t : ℕ). k * o * t) y)))) pw
  where
    given :
        (k e p l o q m w s : ℕ) → (k * (p * w + m * o) + e * (o * w)) * s ≤ k * (q * o + l * w) * s
        → k * p * w * s + k * m * o * s + e * o * w * s ≤ k * q * o * s + k * l * w * s
    given k e p l o q m w s h = omega arith

    cross :
        (k o q m w q' m' w' : ℕ) → k * o * (q * w' + m' * w) ≡ k * o * (q' * w + m * w')
        → k * q * o * w' + k * m' * o * w ≡ k * q' * o * w + k * m * o * w'
    cross k o q m w q' m' w' h = omega arith

    goal :
        (k e p l o q m w v : ℕ) → k * p * w * v + k * m * o * w + e * o * w * v ≤ k * q * o * w + k * l * w * v
        → (k * (p * v + m * o) + e * (o * v)) * w ≤ k * (q * o + l * v) * w
    goal k e p l o q m w v h = omega arith

pub rise_moves : (k e : ℕ) {x y x' y' : Signed} → 0 < x.over → 0 < y.over → Same x x' → Same y y' → RisesBy k e x y → RisesBy k e x' y'
rise_moves k e px py a b h =
    let g = second_moves k e _ _ _ _ _ _ _ _ _ py b.crosswise h in
    turned k e _ _ _ _ _ _ (second_moves k e _ _ _ _ _ _ _ _ _ px (minus _ _ _ _ _ _ a.crosswise) (turned k e _ _ _ _ _ _ g))
  where
    -- y - x is -x - (-y)
    turned :
        (k e p l o q m w : ℕ) → k * (p * w + m * o) + e * (o * w) ≤ k * (q * o + l * w)
        → k * (m * o + p * w) + e * (w * o) ≤ k * (l * w + q * o)
    turned k e p l o q m w h = omega arith

    minus : (p l o p' l' o' : ℕ) → p * o' + l' * o ≡ p' * o + l * o' → l * o' + p' * o ≡ l' * o + p * o'
    minus p l o p' l' o' e = omega arith

-- ---- by m = (d + p)/d

-- the same k
inside_shape : (r f t T N Q N' Q' k e : ℕ) → k * (N * Q') + e * (Q * Q') ≤ k * (N' * Q)
    → k * ((r * (t * Q) + N * T) * (T * Q') + f * (t * Q') * (T * Q)) + e * (T * Q * (T * Q'))
    ≤ k * ((r * (t * Q') + N' * T) * (T * Q) + f * (t * Q) * (T * Q'))
inside_shape r f t T N Q N' Q' k e h = omega (arith, mul-le-mul_left (T * T) h)

regrouped : (k y e A B C : ℕ) → suc k * (y * A) + k * (e * B) ≤ suc k * (y * C) → suc k * y * A + k * e * B ≤ suc k * y * C
regrouped k y e A B C h = omega arith

module _ (r f p e d : ℕ) (pd : 0 < d) (low : p ≤ d) where
  inside : RisesBy (suc rest * (d + p + e)) (rest * e) (by r f p d) (by r f (p + e) d)
  inside =
      inside_shape r f (s_num 1 3) (s_den 3) _ _ _ _ (suc rest * (d + p + e)) (rest * e)
      (regrouped rest (d + p + e) e _ _ _
      (subst
      (λ (q : ℕ). suc rest * ((d + p + e) * (s_num p (d + d + p) * s_den q)) + rest * (e * (s_den (d + d + p) * s_den q))
      ≤ suc rest * ((d + p + e) * (s_num (p + e) q * s_den (d + d + p)))) (grouped d p e)
      (S-from_below d p e pd low)))
    where
      grouped : (d p e : ℕ) → d + d + p + e ≡ d + d + (p + e)
      grouped d p e = omega arith

-- the next k: from m = (d + p)/d to 2 by g, and from 2 = 2d/d to (2d + q)/d
to_two_shape :
    (k n y q N Q t T M Z g : ℕ) → 0 < Z → M * T ≡ t * Z → N * T ≤ t * Q → y ≡ n + q
    → suc k * (n * (N * Z)) + k * (g * (Q * Z)) ≤ suc k * (n * (M * Q)) → suc k * y * (N * T) + k * g * (Q * T) ≤ suc k * y * (t * Q)
to_two_shape k n y q N Q t T M Z g pZ m l e h =
    rw e
    (joined (suc k) n q (N * T) (k * g * (Q * T)) (t * Q)
    (le_of_mul-le-mul_right {k = Z}
    (cross (suc k * n) (k * g) N Q t T M Z (mul-le-mul_left T (regrouped k n g _ _ _ h)) (ap (λ (x : ℕ). suc k * n * Q * x) m)) pZ)
    (mul-le-mul_left (suc k * q) l))
  where
    cross :
        (K R N Q t T M Z : ℕ) → T * (K * (N * Z) + R * (Q * Z)) ≤ T * (K * (M * Q)) → K * Q * (M * T) ≡ K * Q * (t * Z)
        → (K * (N * T) + R * (Q * T)) * Z ≤ K * (t * Q) * Z
    cross K R N Q t T M Z h e = omega arith

    joined : (k n q a b c : ℕ) → k * n * a + b ≤ k * n * c → k * q * a ≤ k * q * c → k * (n + q) * a + b ≤ k * (n + q) * c
    joined k n q a b c h i = omega arith

from_two_shape :
    (k y N A Q Z q : ℕ) → 0 < Z → A ≡ 0 → suc k * (y * (A * Q)) + k * (q * (Z * Q)) ≤ suc k * (y * (N * Z)) → k * q * Q ≤ suc k * y * N
from_two_shape k y N A Q Z q pZ e h = le_of_mul-le-mul_right {k = Z} (go k y N A Q Z q e h) pZ
  where
    go : (k y N A Q Z q : ℕ) → A ≡ 0 → suc k * (y * (A * Q)) + k * (q * (Z * Q)) ≤ suc k * (y * (N * Z)) → k * q * Q * Z ≤ suc k * y * N * Z
    go k y N A Q Z q e h = omega arith

over_shape : (r f t T N Q N' Q' K e g : ℕ) → K * (N * T) + e * (Q * T) ≤ K * (t * Q) → g * Q' ≤ K * N'
    → K * ((r * (t * Q) + N * T) * (T * Q') + f * (t * Q') * (T * Q)) + (e + g) * (T * Q * (T * Q'))
    ≤ K * ((suc r * (t * Q') + N' * T) * (T * Q) + f * (t * Q) * (T * Q'))
over_shape r f t T N Q N' Q' K e g h i =
    rw (before_shape r f t T N Q Q' K, after_shape r f t T N' Q Q' K)
    (two_steps _ _ _ _ e g (T * Q * (T * Q')) (first h) (second i))
  where
    first : K * (N * T) + e * (Q * T) ≤ K * (t * Q) → K * (N * T) * (T * Q') + e * (T * Q * (T * Q')) ≤ K * (t * Q) * (T * Q')
    first h = go (K * (N * T)) e (K * (t * Q)) (mul-le-mul_right (T * Q') h)
      where
        go : (a e b : ℕ) → (a + e * (Q * T)) * (T * Q') ≤ b * (T * Q') → a * (T * Q') + e * (T * Q * (T * Q')) ≤ b * (T * Q')
        go a e b h = omega arith

    second : g * Q' ≤ K * N' → g * (T * Q * (T * Q')) ≤ T * T * Q * (K * N')
    second i = go (K * N') (mul-le-mul_left (T * T * Q) i)
      where
        go : (x : ℕ) → T * T * Q * (g * Q') ≤ T * T * Q * x → g * (T * Q * (T * Q')) ≤ T * T * Q * x
        go x h = omega arith

    two_steps : (x n y n' e g w : ℕ) → n + e * w ≤ y → g * w ≤ n' → x + n + (e + g) * w ≤ x + y + n'
    two_steps x n y n' e g w h k = omega arith

module _ (r f p g q d : ℕ) (pd : 0 < d) (split : p + g ≡ d) where
  to_two :
      suc rest * (d + d + q) * (s_num p (d + d + p) * s_den 3) + rest * g * (s_den (d + d + p) * s_den 3)
      ≤ suc rest * (d + d + q) * (s_num 1 3 * s_den (d + d + p))
  to_two =
      to_two_shape rest (d + p + g) (d + d + q) q _ _ _ _ (s_num d (d + d + d)) (s_den (d + d + d)) g (s_den-pos (d + d + d) (omega arith))
      (S-of_same d (d + d + d) 1 3 (omega arith) (omega arith) (omega arith))
      (S-grows p (d + d + p) 1 3 (omega arith) (omega arith) (omega arith)) (omega arith)
      (subst
      (λ (u : ℕ). suc rest * ((d + p + g) * (s_num p (d + d + p) * s_den (d + d + d))) + rest * (g * (s_den (d + d + p) * s_den (d + d + d)))
      ≤ suc rest * ((d + p + g) * (s_num u (d + d + d) * s_den (d + d + p)))) split
      (subst
      (λ (v : ℕ). suc rest * ((d + p + g) * (s_num p (d + d + p) * s_den v)) + rest * (g * (s_den (d + d + p) * s_den v))
      ≤ suc rest * ((d + p + g) * (s_num (p + g) v * s_den (d + d + p)))) (grouped d p g split)
      (S-from_below d p g pd (omega arith))))
    where
      grouped : (d p g : ℕ) → p + g ≡ d → d + d + p + g ≡ d + d + d
      grouped d p g h = omega arith

  from-two : rest * q * s_den (d + d + (d + d) + q) ≤ suc rest * (d + d + q) * s_num q (d + d + (d + d) + q)
  from-two =
      from_two_shape rest (d + d + q) _ (s_num 0 (d + d + (d + d) + 0)) _ (s_den (d + d + (d + d) + 0)) q
      (s_den-pos (d + d + (d + d) + 0) (omega arith)) (S-at_zero _)
      (subst
      (λ (y : ℕ). suc rest * (y * (s_num 0 (d + d + (d + d) + 0) * s_den (d + d + (d + d) + q))) + rest *
      (q * (s_den (d + d + (d + d) + 0) * s_den (d + d + (d + d) + q)))
      ≤ suc rest * (y * (s_num q (d + d + (d + d) + q) * s_den (d + d + (d + d) + 0)))) (plain d q)
      (subst
      (λ (u : ℕ). suc rest * ((d + d + 0 + q) * (s_num 0 (d + d + (d + d) + 0) * s_den (d + d + (d + d) + q))) + rest *
      (q * (s_den (d + d + (d + d) + 0) * s_den (d + d + (d + d) + q)))
      ≤ suc rest * ((d + d + 0 + q) * (s_num u (d + d + (d + d) + q) * s_den (d + d + (d + d) + 0)))) (none q)
      (subst
      (λ (v : ℕ). suc rest * ((d + d + 0 + q) * (s_num 0 (d + d + (d + d) + 0) * s_den v)) + rest *
      (q * (s_den (d + d + (d + d) + 0) * s_den v))
      ≤ suc rest * ((d + d + 0 + q) * (s_num (0 + q) v * s_den (d + d + (d + d) + 0)))) (grouped d q)
      (S-from_below (d + d) 0 q (omega arith) (omega arith)))))
    where
      plain : (d q : ℕ) → d + d + 0 + q ≡ d + d + q
      plain d q = omega arith

      none : (q : ℕ) → 0 + q ≡ q
      none q = omega arith

      grouped : (d q : ℕ) → d + d + (d + d) + 0 + q ≡ d + d + (d + d) + q
      grouped d q = omega arith

  over : RisesBy (suc rest * (d + d + q)) (rest * g + rest * q) (by r f p d) (by (suc r) f q (d + d))
  over = over_shape r f (s_num 1 3) (s_den 3) _ _ _ _ (suc rest * (d + d + q)) (rest * g) (rest * q) to_two from-two

-- ---- any fractions

rises_cancelled :
    (x y : Signed) (k a e F A E : ℕ) → 0 < F → A ≡ (a + e) * F → E ≡ k * (e * F) → RisesBy (suc k * A) E x y
    → RisesBy (suc k * (a + e)) (k * e) x y
rises_cancelled x y k a e F A E pF s t h =
    shrunk k (a + e) e F _ _ _ pF
    (subst (λ (z : ℕ). RisesBy (suc k * z) (k * (e * F)) x y) s (subst (λ (z : ℕ). RisesBy (suc k * A) z x y) t h))
  where
    shrunk :
        (k a e F u v w : ℕ) → 0 < F → suc k * (a * F) * u + k * (e * F) * w ≤ suc k * (a * F) * v → suc k * a * u + k * e * w
        ≤ suc k * a * v
    shrunk k a e F u v w pF h = le_of_mul-le-mul_right {k = F} (omega arith) pF

module _ (a e c : ℕ) (pa : 0 < a) (pc : 0 < c) (small : e ≤ a) where
  abbrev r : ℕ
  r = rise a c

  abbrev f : ℕ
  f = fall a c

  abbrev d : ℕ
  d = c * 2 ^ r

  abbrev h : ℕ
  h = e * 2 ^ f

  pd : 0 < d
  pd = mul-pos pc (pow_pos r)

  more : (a + e) * 2 ^ f ≡ a * 2 ^ f + h
  more = add-mul a e (2 ^ f)

  -- L(x + h) is at least L(x) + (1 - 3^-80)·h/(x+h), for x = a/c, h = e/c
  pub L-rises : RisesBy (suc rest * (a + e)) (rest * e) (lOf a c) (lOf (a + e) c)
  L-rises =
      walked a e c pa pc small (λ (x y : Signed). RisesBy (suc rest * (a + e)) (rest * e) x y)
      (λ x y x' y'. rise_moves (suc rest * (a + e)) (rest * e))
      (λ p is l.
      rises_cancelled (by r f p d) (by r f (p + h) d) rest a e (2 ^ f) (d + p + h) (rest * h) (pow_pos f)
      (ap (λ (z : ℕ). z + h) is ∙ sym more) refl (inside r f p h d pd (le_of_lt l)))
      (λ p g q is s t.
      rises_cancelled (by r f p d) (by (suc r) f q (d + d)) rest a e (2 ^ f) (d + d + q) (rest * g + rest * q) (pow_pos f)
      (reached (a * 2 ^ f) ((a + e) * 2 ^ f) h d p g q more is s t) (shared rest g q t) (over r f p g q d pd s))
    where
      shared : (k g q : ℕ) {x : ℕ} → g + q ≡ x → k * g + k * q ≡ k * x
      shared k g q e = sym (mul-add k g q) ∙ ap (λ (z : ℕ). k * z) e

      reached : (m x h d p g q : ℕ) → x ≡ m + h → d + p ≡ m → p + g ≡ d → g + q ≡ h → d + d + q ≡ x
      reached m x h d p g q i j k l = omega arith
