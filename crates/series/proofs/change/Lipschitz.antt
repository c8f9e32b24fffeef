-- L grows with its fraction, and no faster than the fraction does: L(x + h) lies between L(x) and L(x) + h/x, for h up to x. Exact, on any
-- fractions. Assumes nothing.
-- x = m·2^k. Up to 2^(k+1) the k is the same and the law is that of S. From there on it is walked in two steps, to 2^(k+1) and from there.
use mathlib.Core.Path.{◌≡◌, refl, ap, ◌∙◌, subst}
use Prim.Native.Nat.{ℕ, suc, ◌+◌, ◌*◌, ◌^◌, ◌≤◌, ◌<◌}
use native.Mathlib.Nat.{mul-pos, mul-le-mul_left, mul-le-mul_right, le_of_mul-le-mul_right}
use native.Mathlib.Omega.{arith}
use lib.Pow.{pow_pos}
use Rattle.series.specs.Series.{Signed, Same, s_num, s_den, lOf, rise, fall}
use Rattle.series.proofs.OddPowers.{odds_at_zero}
use Rattle.series.proofs.Terms.{weight, s_num_by_weights, s_den-pos}
use Rattle.series.proofs.Order.{S-grows, S-of_same, S-lipschitz}
use Rattle.series.specs.change.Distances.{AtMostBy}
use Rattle.series.proofs.change.Distances.{difference_moves}
use Rattle.series.proofs.change.Binades.{by, walked}

pub S-at_zero : (q : ℕ) → s_num 0 q ≡ 0
S-at_zero q = s_num_by_weights 0 q ∙ ap (λ (x : ℕ). 2 * x) (odds_at_zero weight 40 q)

-- ---- the same k

grown : (r f t T N Q N' Q' : ℕ) → N * Q' ≤ N' * Q
    → 1 * ((r * (t * Q) + N * T) * (T * Q') + f * (t * Q') * (T * Q))
    ≤ 1 * ((r * (t * Q') + N' * T) * (T * Q) + f * (t * Q) * (T * Q')) + 0 * (T * Q' * (T * Q))
grown r f t T N Q N' Q' h = omega (arith, mul-le-mul_left (T * T) h)

stretched : (r f t T N Q N' Q' y d : ℕ) → y * (N' * Q) ≤ y * (N * Q') + d * (Q * Q')
    → y * ((r * (t * Q') + N' * T) * (T * Q) + f * (t * Q) * (T * Q'))
    ≤ y * ((r * (t * Q) + N * T) * (T * Q') + f * (t * Q') * (T * Q)) + d * (T * Q * (T * Q'))
stretched r f t T N Q N' Q' y d h = omega (arith, mul-le-mul_left (T * T) h)

module _ (r f p e d : ℕ) (pd : 0 < d) where
  inside_grows : AtMostBy 1 0 (by r f (p + e) d) (by r f p d)
  inside_grows =
      grown r f (s_num 1 3) (s_den 3) _ _ _ _
      (S-grows p (d + d + p) (p + e) (d + d + (p + e)) (omega arith) (omega arith) (crossed p e d))
    where
      crossed : (p e d : ℕ) → p * (d + d + (p + e)) ≤ (p + e) * (d + d + p)
      crossed p e d = omega arith

  inside_near : AtMostBy (d + p) e (by r f p d) (by r f (p + e) d)
  inside_near =
      stretched r f (s_num 1 3) (s_den 3) _ _ _ _ (d + p) e
      (subst
      (λ (q : ℕ). (d + p) * (s_num (p + e) q * s_den (d + d + p)) ≤ (d + p) * (s_num p (d + d + p) * s_den q) + e * (s_den (d + d + p) * s_den q))
      (regrouped d p e)
      (S-lipschitz d p e (omega arith)))
    where
      regrouped : (d p e : ℕ) → d + d + p + e ≡ d + d + (p + e)
      regrouped d p e = omega arith

-- ---- the next k: from m = (d + p)/d to 2, and from 2 = 2d/d to (2d + q)/d

-- S(1/3) by D/3D
third_at : (d : ℕ) → 0 < d → s_num d (d + d + d) * s_den 3 ≡ s_num 1 3 * s_den (d + d + d)
third_at d pd = S-of_same d (d + d + d) 1 3 (omega arith) (omega arith) (omega arith)

step_to_two :
    (y N Q t T M R e : ℕ) → 0 < R → M * T ≡ t * R → y * (M * Q) ≤ y * (N * R) + e * (Q * R) → y * (t * Q) ≤ y * (N * T) + e * (Q * T)
step_to_two y N Q t T M R e pR m h =
    le_of_mul-le-mul_right {k = R} (omega (arith, mul-le-mul_left T h, ap (λ (x : ℕ). y * Q * x) m)) pR

to_two :
    (d p e : ℕ) → 0 < d → p + e ≡ d
    → (d + p) * (s_num 1 3 * s_den (d + d + p)) ≤ (d + p) * (s_num p (d + d + p) * s_den 3) + e * (s_den (d + d + p) * s_den 3)
to_two d p e pd h =
    step_to_two (d + p) (s_num p (d + d + p)) (s_den (d + d + p)) (s_num 1 3) (s_den 3) (s_num d (d + d + d)) (s_den (d + d + d)) e
    (s_den-pos (d + d + d) (omega arith)) (third_at d pd)
    (subst (λ (u : ℕ). (d + p) * (s_num u (d + d + d) * s_den (d + d + p))
    ≤ (d + p) * (s_num p (d + d + p) * s_den (d + d + d)) + e * (s_den (d + d + p) * s_den (d + d + d))) h
    (subst (λ (v : ℕ). (d + p) * (s_num (p + e) v * s_den (d + d + p))
    ≤ (d + p) * (s_num p (d + d + p) * s_den v) + e * (s_den (d + d + p) * s_den v)) (regrouped d p e h)
    (S-lipschitz d p e (omega arith))))
  where
    regrouped : (d p e : ℕ) → p + e ≡ d → d + d + p + e ≡ d + d + d
    regrouped d p e h = omega arith

from_two_shape : (y N Z Q R q c : ℕ) → 0 < R → Z ≡ 0 → y * (N * R) ≤ y * (Z * Q) + q * (R * Q) → c ≤ y → c * N ≤ q * Q
from_two_shape y N Z Q R q c pR z h l =
    le_of_mul-le-mul_right {k = R} (omega (arith, mul-le-mul_left (N * R) l, ap (λ (x : ℕ). y * Q * x) z)) pR

from-two : (d q c : ℕ) → 0 < d → c ≤ d + d → c * s_num q (d + d + (d + d) + q) ≤ q * s_den (d + d + (d + d) + q)
from-two d q c pd l =
    from_two_shape (d + d + 0) (s_num q (d + d + (d + d) + q)) (s_num 0 (d + d + (d + d) + 0)) (s_den (d + d + (d + d) + q))
    (s_den (d + d + (d + d) + 0)) q c
    (s_den-pos (d + d + (d + d) + 0) (omega arith)) (S-at_zero _)
    (subst (λ (v : ℕ). (d + d + 0) * (s_num q v * s_den (d + d + (d + d) + 0))
    ≤ (d + d + 0) * (s_num 0 (d + d + (d + d) + 0) * s_den v) + q * (s_den (d + d + (d + d) + 0) * s_den v)) (regrouped d q)
    (subst (λ (u : ℕ). (d + d + 0) * (s_num u (d + d + (d + d) + 0 + q) * s_den (d + d + (d + d) + 0))
    ≤ (d + d + 0) * (s_num 0 (d + d + (d + d) + 0) * s_den (d + d + (d + d) + 0 + q)) + q * (s_den (d + d + (d + d) + 0) * s_den
    (d + d + (d + d) + 0 + q))) (none q)
    (S-lipschitz (d + d) 0 q (omega arith))))
    (omega arith)
  where
    regrouped : (d q : ℕ) → d + d + (d + d) + 0 + q ≡ d + d + (d + d) + q
    regrouped d q = omega arith

    none : (q : ℕ) → 0 + q ≡ q
    none q = omega arith

-- the turns that both have taken out
pub before_shape :
    (r f t T N Q Q' c : ℕ)
    → c * ((r * (t * Q) + N * T) * (T * Q') + f * (t * Q') * (T * Q)) ≡ (r + f) * (c * (t * Q) * (T * Q')) + c * (N * T) * (T * Q')
before_shape r f t T N Q Q' c = omega arith

pub after_shape :
    (r f t T N' Q Q' c : ℕ)
    → c * ((suc r * (t * Q') + N' * T) * (T * Q) + f * (t * Q) * (T * Q'))
    ≡ (r + f) * (c * (t * Q) * (T * Q')) + c * (t * Q) * (T * Q') + T * T * Q * (c * N')
after_shape r f t T N' Q Q' c = omega arith

two_steps : (x y n n' e q w : ℕ) → y ≤ n + e * w → n' ≤ q * w → x + y + n' ≤ x + n + (e + q) * w
two_steps x y n n' e q w h k = omega arith

over_two_shape : (r f t T N Q N' Q' c e q : ℕ) → c * (t * Q) ≤ c * (N * T) + e * (Q * T) → c * N' ≤ q * Q'
    → c * ((suc r * (t * Q') + N' * T) * (T * Q) + f * (t * Q) * (T * Q'))
    ≤ c * ((r * (t * Q) + N * T) * (T * Q') + f * (t * Q') * (T * Q)) + (e + q) * (T * Q * (T * Q'))
over_two_shape r f t T N Q N' Q' c e q h k =
    rw (after_shape r f t T N' Q Q' c, before_shape r f t T N Q Q' c)
    (two_steps _ _ _ _ e q (T * Q * (T * Q')) (first h) (second k))
  where
    first : c * (t * Q) ≤ c * (N * T) + e * (Q * T) → c * (t * Q) * (T * Q') ≤ c * (N * T) * (T * Q') + e * (T * Q * (T * Q'))
    first h = omega (arith, mul-le-mul_right (T * Q') h)

    second : c * N' ≤ q * Q' → T * T * Q * (c * N') ≤ q * (T * Q * (T * Q'))
    second k = omega (arith, mul-le-mul_left (T * T * Q) k)

over_two_grown : (r f t T N Q N' Q' : ℕ) → N * T ≤ t * Q
    → 1 * ((r * (t * Q) + N * T) * (T * Q') + f * (t * Q') * (T * Q))
    ≤ 1 * ((suc r * (t * Q') + N' * T) * (T * Q) + f * (t * Q) * (T * Q')) + 0 * (T * Q' * (T * Q))
over_two_grown r f t T N Q N' Q' h = omega (arith, mul-le-mul_left (T * Q') h)

module _ (r f p e q d : ℕ) (pd : 0 < d) (split : p + e ≡ d) where
  over_near : AtMostBy (d + p) (e + q) (by r f p d) (by (suc r) f q (d + d))
  over_near = over_two_shape r f (s_num 1 3) (s_den 3) _ _ _ _ (d + p) e q (to_two d p e pd split) (from-two d q (d + p) pd (omega arith))

  over_grows : AtMostBy 1 0 (by (suc r) f q (d + d)) (by r f p d)
  over_grows =
      over_two_grown r f (s_num 1 3) (s_den 3) _ _ (s_num q (d + d + (d + d) + q)) _
      (S-grows p (d + d + p) 1 3 (omega arith) (omega arith) (omega arith))

-- ---- any fractions

-- L(x + h) lies between L(x) and L(x) + h/x
pub record Nearby (a e : ℕ) (x y : Signed) : Type 0 where
  pub not-below : AtMostBy 1 0 y x
  pub not_far : AtMostBy a e x y

-- x = (d+p)/d · 2^k, and x + h either (d+p+e)/d · 2^k or (2d+q)/2d · 2^(k+1)
module _ (r f d : ℕ) (pd : 0 < d) where
  nearby_at : (p e : ℕ) → Nearby (d + p) e (by r f p d) (by r f (p + e) d)
  nearby_at p e = record { not-below = inside_grows r f p e d pd; not_far = inside_near r f p e d pd }

  nearby_over : (p e q : ℕ) → p + e ≡ d → Nearby (d + p) (e + q) (by r f p d) (by (suc r) f q (d + d))
  nearby_over p e q s = record { not-below = over_grows r f p e q d pd s; not_far = over_near r f p e q d pd s }

nearby_moves :
    {a e : ℕ} {x y x' y' : Signed} → 0 < x.over → 0 < y.over → Same x x' → Same y y' → Nearby a e x y → Nearby a e x' y'
nearby_moves {a} {e} px py s t n =
    record { not-below = difference_moves 1 0 py px t s n.not-below; not_far = difference_moves a e px py s t n.not_far }

cancelled : {A E : ℕ} {x y : Signed} (a e F : ℕ) → 0 < F → A ≡ a * F → E ≡ e * F → Nearby A E x y → Nearby a e x y
cancelled {x = x} {y = y} a e F pF s t n = record { not-below = n.not-below; not_far = shrunk a e F _ _ _ pF (subst₂ s t n.not_far) }
  where
    subst₂ : {A B E H : ℕ} → A ≡ B → E ≡ H → AtMostBy A E x y → AtMostBy B H x y
    subst₂ {B = B} {E = E} s t h = subst (λ (z : ℕ). AtMostBy B z x y) t (subst (λ (z : ℕ). AtMostBy z E x y) s h)

    shrunk : (a e F u v w : ℕ) → 0 < F → a * F * u ≤ a * F * v + e * F * w → a * u ≤ a * v + e * w
    shrunk a e F u v w pF h = le_of_mul-le-mul_right {k = F} (omega arith) pF

module _ (a e c : ℕ) (pa : 0 < a) (pc : 0 < c) (small : e ≤ a) where
  abbrev r : ℕ
  r = rise a c

  abbrev f : ℕ
  f = fall a c

  abbrev d : ℕ
  d = c * 2 ^ r

  pd : 0 < d
  pd = mul-pos pc (pow_pos r)

  -- L(x + h) lies between L(x) and L(x) + h/x, for x = a/c, h = e/c
  pub L-nearby : Nearby a e (lOf a c) (lOf (a + e) c)
  L-nearby =
      walked a e c pa pc small (λ (x y : Signed). Nearby a e x y) (λ x y x' y'. nearby_moves)
      (λ p is l. cancelled a e (2 ^ f) (pow_pos f) is refl (nearby_at r f d pd p (e * 2 ^ f)))
      (λ p g q is s t. cancelled a e (2 ^ f) (pow_pos f) is t (nearby_over r f d pd p g q s))
