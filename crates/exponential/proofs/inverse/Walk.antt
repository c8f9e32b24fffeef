-- The exponential's sum at S((m-1)/(m+1)), against m: at most m, and at least m but for 2^-100 of it, for m from 1 to 2. Exact, on any
-- fractions. Assumes nothing.
-- m = (o+a)/o is walked to from 1 in n equal steps. A step from x to x + d takes S up by at most d/x, and so the sum by at most the factor
-- x/(x-d): these telescope, and leave m·o/(o-d). Likewise from below, with d/(x+d) and (x+2d)/(x+d). n is as large as one likes.
use Rattle.std.proofs.Common.{◌≡◌, ℕ, zero, suc, ◌+◌, ◌*◌, ◌^◌, ◌<◌, ◌≤◌, sym, ap, ◌∙◌, subst, le_trans, le_of_eq, le_refl, le-add_right, add-zero, add_assoc, add-le-add, mul-le-mul_right, add-mul, mul-le-mul_left, mul-pos, lt_of_not-le, le_of_mul-le-mul_right, arith, lit≤}
use native.Mathlib.Nat.{le_dest, one-le-pow}
use native.Mathlib.Decide.{dec_le}
use Rattle.series.specs.Series.{s_num, s_den}
use Rattle.series.proofs.Terms.{s_den-pos}
use Rattle.series.proofs.Order.{S-grows, S-of_same, S-lipschitz}
use Rattle.series.proofs.change.Lipschitz.{S-at_zero}
use Rattle.exponential.specs.Sum.{factorial, sum_num, sum_den}
use Rattle.exponential.specs.inverse.Inverse.{parts}
use Rattle.exponential.proofs.inverse.Sums.{factorial-pos, sum_at-zero, E-grows, E-at_most, E-at_least}
use Rattle.exponential.proofs.inverse.SFromBelow.{rest, S-from_below, S-at_most_one}

-- E(S(p/q)), numerator and denominator
abbrev e_num : ℕ → ℕ → ℕ
e_num p q = sum_num (s_num p q) (s_den q)

abbrev e_den : ℕ → ℕ
e_den q = sum_den (s_den q)

power_pos : (q : ℕ) → 0 < q → 0 < s_den q ^ 39
power_pos q h = one-le-pow 39 (s_den q) (s_den-pos q h)

at_zero : (q : ℕ) → e_num 0 q ≡ e_den q
at_zero q = ap (λ (x : ℕ). sum_num x (s_den q)) (S-at_zero q) ∙ sum_at-zero (s_den q)

-- the same fraction
E-of_same : (p q r s : ℕ) → 0 < q → 0 < s → p * s ≡ r * q → e_num p q * s_den s ^ 39 ≤ e_num r s * s_den q ^ 39
E-of_same p q r s pq ps e =
    E-grows (s_num p q) (s_den q) (s_num r s) (s_den s) (s_den-pos q pq) (s_den-pos s ps) (le_of_eq (S-of_same p q r s pq ps e))

-- ---- one step

module _ (b p d : ℕ) (pb : 0 < b) where
  abbrev q : ℕ
  q = b + b + p

  abbrev q' : ℕ
  q' = b + b + p + d

  pq : 0 < q
  pq = omega arith

  pq' : 0 < q'
  pq' = omega arith

  step_up : (x : ℕ) → b + p ≡ x + d → x * (e_num (p + d) q' * s_den q ^ 39) ≤ (x + d) * (e_num p q * s_den q' ^ 39)
  step_up x e =
      E-at_most (s_num p q) (s_den q) (s_num (p + d) q') (s_den q') (s_den-pos q pq) (s_den-pos q' pq') x d
      (subst (λ (z : ℕ). z * (s_num (p + d) q' * s_den q) ≤ z * (s_num p q * s_den q') + d * (s_den q * s_den q')) e
      (S-lipschitz b p d (omega arith)))

  step_down :
      p ≤ b
      → factorial 39 * (suc rest * ((b + p + d) * (e_num p q * s_den q' ^ 39))) + factorial 39 * (rest * (d * (e_num p q * s_den q' ^ 39)))
      ≤ factorial 39 * (suc rest * ((b + p + d) * (e_num (p + d) q' * s_den q ^ 39))) + rest * (d * (e_num p q * s_den q' ^ 39))
  step_down low =
      E-at_least (s_num p q) (s_den q) (s_num (p + d) q') (s_den q') (s_den-pos q pq) (s_den-pos q' pq') (b + p + d) d rest
      (S-at_most_one b p pb low) (S-grows p q (p + d) q' pq pq' (crossed b p d)) (S-from_below b p d pb low)
    where
      crossed : (b p d : ℕ) → p * (b + b + p + d) ≤ (p + d) * (b + b + p)
      crossed b p d = omega arith

-- ---- the walk up: b = c + d

up_shape :
    (c X d e e' Q Q' A : ℕ) → 0 < Q → 0 < X → X * (e' * Q) ≤ (X + d) * (e * Q') → c * e ≤ A * Q * X → c * e' ≤ A * Q' * (X + d)
up_shape c X d e e' Q Q' A pQ pX h k =
    le_of_mul-le-mul_right {k = Q * X} (go (mul-le-mul_left c h) (mul-le-mul_left ((X + d) * Q') k)) (mul-pos pQ pX)
  where
    go :
        c * (X * (e' * Q)) ≤ c * ((X + d) * (e * Q')) → (X + d) * Q' * (c * e) ≤ (X + d) * Q' * (A * Q * X)
        → c * e' * (Q * X) ≤ A * Q' * (X + d) * (Q * X)
    go i j = chained (expand₁ c X d e e' Q Q' i) (expand₂ c X d e Q Q' A j)
      where
        chained : {a b c : ℕ} → a ≤ b → b ≤ c → a ≤ c
        chained h k = le_trans h k

        expand₁ : (c X d e e' Q Q' : ℕ) → c * (X * (e' * Q)) ≤ c * ((X + d) * (e * Q')) → c * e' * (Q * X) ≤ (X + d) * Q' * (c * e)
        expand₁ c X d e e' Q Q' h = omega arith

        expand₂ :
            (c X d e Q Q' A : ℕ) → (X + d) * Q' * (c * e) ≤ (X + d) * Q' * (A * Q * X) → (X + d) * Q' * (c * e) ≤ A * Q' * (X + d) * (Q * X)
        expand₂ c X d e Q Q' A h = omega arith

module _ (c d : ℕ) (pc : 0 < c) where
  abbrev b : ℕ
  b = c + d

  -- E(S) after j steps is at most (c + jd)/c
  walked_up : (j : ℕ) → c * e_num (j * d) (b + b + j * d) ≤ factorial 39 * s_den (b + b + j * d) ^ 39 * (c + j * d)
  walked_up zero =
      subst (λ (z : ℕ). c * e_num z (b + b + z) ≤ factorial 39 * s_den (b + b + z) ^ 39 * (c + z)) (none d)
      (le_of_eq (ap (λ (x : ℕ). c * x) (at_zero (b + b + 0)) ∙ last c (factorial 39 * s_den (b + b + 0) ^ 39)))
    where
      none : (d : ℕ) → 0 ≡ 0 * d
      none d = omega arith

      last : (c x : ℕ) → c * x ≡ x * (c + 0)
      last c x = omega arith
  walked_up (suc j) =
      subst (λ (z : ℕ). c * e_num z (b + b + z) ≤ factorial 39 * s_den (b + b + z) ^ 39 * (c + z)) (more j d)
      (moved
      (up_shape c (c + j * d) d _ _ _ _ (factorial 39) (power_pos (b + b + j * d) (omega arith)) (omega arith)
      (step_up b (j * d) d (omega arith) (c + j * d) (omega arith)) (walked_up j)))
    where
      more : (j d : ℕ) → j * d + d ≡ suc j * d
      more j d = omega arith

      moved :
          c * e_num (j * d + d) (b + b + j * d + d) ≤ factorial 39 * s_den (b + b + j * d + d) ^ 39 * (c + j * d + d)
          → c * e_num (j * d + d) (b + b + (j * d + d)) ≤ factorial 39 * s_den (b + b + (j * d + d)) ^ 39 * (c + (j * d + d))
      moved h = rw (← (add_assoc (b + b) (j * d) d), ← (add_assoc c (j * d) d)) h

-- ---- the walk from below

-- (1 - 3^-80)(1 - 1/39!) is at least 1 - 2^-100
losses : parts * (factorial 39 * suc rest) + suc parts * rest ≤ suc parts * (factorial 39 * rest)
unfolding parts rest factorial
losses = lit≤ tt

-- a step's factor, with both losses in one
one_loss :
    (f r k x d E E' : ℕ) → 0 < f → k * (f * suc r) + suc k * r ≤ suc k * (f * r)
    → f * (suc r * (x * E)) + f * (r * (d * E)) ≤ f * (suc r * (x * E')) + r * (d * E)
    → suc k * (x * E) + k * (d * E) ≤ suc k * (x * E')
one_loss f r k x d E E' pf n h =
    le_of_mul-le-mul_right {k = f * suc r} (go (f * suc r) (f * r) (parted h) n) (mul-pos pf (omega arith))
  where
    parted :
        f * (suc r * (x * E)) + f * (r * (d * E)) ≤ f * (suc r * (x * E')) + r * (d * E)
        → f * suc r * (x * E) + f * r * (d * E) ≤ f * suc r * (x * E') + r * (d * E)
    parted h = omega arith

    go :
        (G g : ℕ) → G * (x * E) + g * (d * E) ≤ G * (x * E') + r * (d * E) → k * G + suc k * r ≤ suc k * g
        → (suc k * (x * E) + k * (d * E)) * G ≤ suc k * (x * E') * G
    go G g h n = sums G g (x * E) (d * E) (x * E') (mul-le-mul_left (suc k) h) (mul-le-mul_right (d * E) n)
      where
        sums :
            (G g u v w : ℕ) → suc k * (G * u + g * v) ≤ suc k * (G * w + r * v) → (k * G + suc k * r) * v ≤ suc k * g * v
            → (suc k * u + k * v) * G ≤ suc k * w * G
        sums G g u v w i j = omega arith

-- W is (b+d)·(k+1)·b, and w what is left of (k+1)·b after the step
down_shape :
    (k x d w e e' Q Q' A W : ℕ) → 0 < Q → 0 < x → w ≤ suc k * x → suc k * (x * (e * Q')) + k * (d * (e * Q')) ≤ suc k * (x * (e' * Q))
    → A * Q * (x * (w + d)) ≤ e * W → A * Q' * ((x + d) * w) ≤ e' * W
down_shape k x d w e e' Q Q' A W pQ px small h g =
    le_of_mul-le-mul_right {k = suc k * x * Q}
    (le_trans (first (mul-le-mul_left (A * Q' * Q * x * d) small))
    (le_trans (mul-le-mul_left ((suc k * x + k * d) * Q') g) (second (mul-le-mul_right W h))))
    (mul-pos (mul-pos (omega arith) px) pQ)
  where
    first :
        A * Q' * Q * x * d * w ≤ A * Q' * Q * x * d * (suc k * x)
        → A * Q' * ((x + d) * w) * (suc k * x * Q) ≤ (suc k * x + k * d) * Q' * (A * Q * (x * (w + d)))
    first i = omega arith

    second : (suc k * (x * (e * Q')) + k * (d * (e * Q'))) * W ≤ suc k * (x * (e' * Q)) * W
        → (suc k * x + k * d) * Q' * (e * W) ≤ e' * W * (suc k * x * Q)
    second i = omega arith

module _ (b d : ℕ) (pb : 0 < b) where
  abbrev W : ℕ
  W = (b + d) * (suc parts * b)

  -- E(S) after j steps is at least (b + jd + d)/(b + d), but for the losses of j steps
  walked_down :
      (j w : ℕ) → j * d ≤ b → w + j * d ≡ suc parts * b
      → factorial 39 * s_den (b + b + j * d) ^ 39 * ((b + j * d + d) * w) ≤ e_num (j * d) (b + b + j * d) * W
  walked_down zero w l e =
      subst (λ (z : ℕ). factorial 39 * s_den (b + b + z) ^ 39 * ((b + z + d) * w) ≤ e_num z (b + b + z) * W) (none d)
      (le_of_eq (first (factorial 39 * s_den (b + b + 0) ^ 39) (none_left d w e) ∙ ap (λ (x : ℕ). x * W) (sym (at_zero (b + b + 0)))))
    where
      none : (d : ℕ) → 0 ≡ 0 * d
      none d = omega arith

      none_left : (d w : ℕ) {x : ℕ} → w + 0 * d ≡ x → w ≡ x
      none_left d w e = omega arith

      first : (y : ℕ) → w ≡ suc parts * b → y * ((b + 0 + d) * w) ≡ y * W
      first y e = ap (λ (x : ℕ). y * ((b + 0 + d) * x)) e ∙ ap (λ (x : ℕ). y * ((x + d) * (suc parts * b))) (add-zero b)
  walked_down (suc j) w l e =
      subst (λ (z : ℕ). factorial 39 * s_den (b + b + z) ^ 39 * ((b + z + d) * w) ≤ e_num z (b + b + z) * W) (more j d)
      (rw (← (add_assoc (b + b) (j * d) d), ← (add_assoc b (j * d) d))
      (down_shape parts (b + j * d + d) d w _ _ _ _ (factorial 39) W (power_pos (b + b + j * d) (omega arith)) (omega arith)
      (least parts e)
      (one_loss (factorial 39) rest parts (b + j * d + d) d _ _ factorial-pos losses
      (step_down b (j * d) d pb (before j d l)))
      (walked_down j (w + d) (before j d l) (taken j d e))))
    where
      more : (j d : ℕ) → j * d + d ≡ suc j * d
      more j d = omega arith

      before : (j d : ℕ) → suc j * d ≤ b → j * d ≤ b
      before j d l = omega arith

      taken : (j d : ℕ) {x : ℕ} → w + suc j * d ≡ x → w + d + j * d ≡ x
      taken j d e = omega arith

      least : (k : ℕ) → w + suc j * d ≡ suc k * b → w ≤ suc k * (b + j * d + d)
      least k e = omega arith

-- what holds of every n holds without what does not grow with it
up_limit : (o a X Y : ℕ) → ((n : ℕ) → a < n → o * n * X ≤ Y * (n * (o + a)) + a * X) → o * X ≤ (o + a) * Y
up_limit o a X Y h = go (dec_le (o * X) ((o + a) * Y))
  where
    go : Dec (o * X ≤ (o + a) * Y) → o * X ≤ (o + a) * Y
    go (yes l) = l
    go (no l) =
        absurd (never (suc (a * X + a)) (less a X) (mul-le-mul_left (suc (a * X + a)) (lt_of_not-le l)) (h (suc (a * X + a)) (large a X)))
      where
        large : (a X : ℕ) → a < suc (a * X + a)
        large a X = omega arith

        less : (a X : ℕ) → a * X < suc (a * X + a)
        less a X = omega arith

        never : (n : ℕ) → a * X < n → n * suc ((o + a) * Y) ≤ n * (o * X) → o * n * X ≤ Y * (n * (o + a)) + a * X → ⊥
        never n i j k = omega arith

module _ (o a : ℕ) (po : 0 < o) where
  abbrev q₀ : ℕ
  q₀ = o + o + a

  -- n steps of size a from o·n = c + a
  up_with : (n c : ℕ) → 0 < c → c + a ≡ o * n → o * n * e_num a q₀ ≤ e_den q₀ * (n * (o + a)) + a * e_num a q₀
  up_with n c pc e =
      shape (e_num a q₀) (e_num (n * a) (c + a + (c + a) + n * a)) (s_den q₀ ^ 39) (s_den (c + a + (c + a) + n * a) ^ 39) (factorial 39)
      (power_pos (c + a + (c + a) + n * a) (omega arith))
      (E-of_same a q₀ (n * a) (c + a + (c + a) + n * a) (omega arith) (omega arith)
      (same (c + a) e)) (walked_up c a pc n)
    where
      same : (b : ℕ) → b ≡ o * n → a * (b + b + n * a) ≡ n * a * (o + o + a)
      same b e = rw e (omega arith)

      shape :
          (X Xn D Dn F : ℕ) → 0 < Dn → X * Dn ≤ Xn * D → c * Xn ≤ F * Dn * (c + n * a) → o * n * X ≤ F * D * (n * (o + a)) + a * X
      shape X Xn D Dn F p h k =
          rw (← e)
          (le_trans (le_of_eq (add-mul c a X)) (add-le-add (le_trans (le_of_mul-le-mul_right {k = Dn}
          (first c X Xn D Dn (c + n * a) F (mul-le-mul_left c h) (mul-le-mul_right D k)) p)
          (mul-le-mul_left (F * D) (most e))) (le_refl (a * X))))
        where
          first :
              (c X Xn D Dn w F : ℕ) → c * (X * Dn) ≤ c * (Xn * D) → c * Xn * D ≤ F * Dn * w * D → c * X * Dn ≤ F * D * w * Dn
          first c X Xn D Dn w F i j = omega arith

          most : c + a ≡ o * n → c + n * a ≤ n * (o + a)
          most e = omega arith

  up_at : (n : ℕ) → a < n → o * n * e_num a q₀ ≤ e_den q₀ * (n * (o + a)) + a * e_num a q₀
  up_at n h = over (le_dest (below n h))
    where
      below : (n : ℕ) → a < n → a + 1 ≤ o * n
      below n h = omega (arith, mul-le-mul_right n po)

      over : (t : ℕ) × (a + 1 + t ≡ o * n) → o * n * e_num a q₀ ≤ e_den q₀ * (n * (o + a)) + a * e_num a q₀
      over (t, e) = up_with n (1 + t) (omega arith) (turned a t e)
        where
          turned : (a t : ℕ) {x : ℕ} → a + 1 + t ≡ x → 1 + t + a ≡ x
          turned a t e = omega arith

  -- E(S((m-1)/(m+1))) is at most m, for m = (o+a)/o
  pub E-of-S-at_most : o * e_num a q₀ ≤ (o + a) * e_den q₀
  E-of-S-at_most = up_limit o a (e_num a q₀) (e_den q₀) up_at

-- the same from below
down_limit : (o a v K X Y : ℕ) → ((n : ℕ) → 0 < n → Y * (n * (o + a)) * v ≤ X * (o * n + a) * K) → Y * (o + a) * v ≤ X * o * K
down_limit o a v K X Y h = go (dec_le (Y * (o + a) * v) (X * o * K))
  where
    go : Dec (Y * (o + a) * v ≤ X * o * K) → Y * (o + a) * v ≤ X * o * K
    go (yes l) = l
    go (no l) =
        absurd (never (suc (X * a * K)) (X * a * K) (Y * (o + a) * v) (X * o * K) (omega arith)
        (mul-le-mul_left (suc (X * a * K)) (lt_of_not-le l)) (shaped (suc (X * a * K)) (h (suc (X * a * K)) (omega arith))))
      where
        shaped : (n : ℕ) → Y * (n * (o + a)) * v ≤ X * (o * n + a) * K → n * (Y * (o + a) * v) ≤ n * (X * o * K) + X * a * K
        shaped n h = omega arith

        never : (n m A B : ℕ) → m < n → n * suc B ≤ n * A → n * A ≤ n * B + m → ⊥
        never n m A B i j k = omega arith

module _ (o a : ℕ) (po : 0 < o) (low : a ≤ o) where
  -- (k+1)·o = v + a
  down_at :
      (v n : ℕ) → v + a ≡ suc parts * o → 0 < n
      → e_den (q₀ o a po) * (n * (o + a)) * v ≤ e_num a (q₀ o a po) * (o * n + a) * (suc parts * o)
  down_at v n e pn =
      shape (e_num a (q₀ o a po)) (e_num (n * a) (o * n + o * n + n * a)) (s_den (q₀ o a po) ^ 39) (s_den (o * n + o * n + n * a) ^ 39)
      (factorial 39)
      (suc parts)
      (power_pos (o * n + o * n + n * a) (omega (arith, mul-pos po pn)))
      (E-of_same (n * a) (o * n + o * n + n * a) a (q₀ o a po) (omega (arith, mul-pos po pn)) (omega arith) (same o n))
      (walked_down (o * n) a (mul-pos po pn) n (n * v) (omega (arith, mul-le-mul_left n low)) (scaled n e))
    where
      same : (o n : ℕ) → n * a * (o + o + a) ≡ a * (o * n + o * n + n * a)
      same o n = omega arith

      scaled : (n : ℕ) → v + a ≡ suc parts * o → n * v + n * a ≡ suc parts * (o * n)
      scaled n e = go (suc parts) e
        where
          go : (k : ℕ) → v + a ≡ k * o → n * v + n * a ≡ k * (o * n)
          go k e = omega (arith, ap (λ (x : ℕ). n * x) e)

      shape :
          (X Xn D Dn F K : ℕ) → 0 < Dn → Xn * D ≤ X * Dn → F * Dn * ((o * n + n * a + a) * (n * v)) ≤ Xn * ((o * n + a) * (K * (o * n)))
          → F * D * (n * (o + a)) * v ≤ X * (o * n + a) * (K * o)
      shape X Xn D Dn F K p h g =
          le_of_mul-le-mul_right {k = n * Dn}
          (le_trans less
          (le_trans (first (mul-le-mul_right D g)) (second (mul-le-mul_right ((o * n + a) * (K * (o * n))) h))))
          (mul-pos pn p)
        where
          less : F * D * (n * (o + a)) * v * (n * Dn) ≤ F * Dn * ((o * n + n * a + a) * (n * v)) * D
          less = omega arith

          first :
              F * Dn * ((o * n + n * a + a) * (n * v)) * D ≤ Xn * ((o * n + a) * (K * (o * n))) * D
              → F * Dn * ((o * n + n * a + a) * (n * v)) * D ≤ Xn * D * ((o * n + a) * (K * (o * n)))
          first i = omega arith

          second :
              Xn * D * ((o * n + a) * (K * (o * n))) ≤ X * Dn * ((o * n + a) * (K * (o * n)))
              → Xn * D * ((o * n + a) * (K * (o * n))) ≤ X * (o * n + a) * (K * o) * (n * Dn)
          second i = omega arith

  -- E(S((m-1)/(m+1))) is at least m less 2^-100 of it, for m = (o+a)/o up to 2
  pub E-of-S-at_least : parts * ((o + a) * e_den (q₀ o a po)) ≤ suc parts * (o * e_num a (q₀ o a po))
  E-of-S-at_least = over (le_dest (below parts))
    where
      below : (k : ℕ) → a + k * o ≤ suc k * o
      below k = omega arith

      over : (t : ℕ) × (a + parts * o + t ≡ suc parts * o) → parts * ((o + a) * e_den (q₀ o a po)) ≤ suc parts * (o * e_num a (q₀ o a po))
      over (t, e) =
          last (e_den (q₀ o a po)) (e_num a (q₀ o a po)) parts (parts * o + t) (le-add_right _ _)
          (down_limit o a (parts * o + t) (suc parts * o) (e_num a (q₀ o a po)) (e_den (q₀ o a po))
          (λ n pn. down_at (parts * o + t) n (turned (parts * o) t e) pn))
        where
          turned : (y t : ℕ) {x : ℕ} → a + y + t ≡ x → y + t + a ≡ x
          turned y t e = omega arith

          last : (Y X k v : ℕ) → k * o ≤ v → Y * (o + a) * v ≤ X * o * (suc k * o) → k * ((o + a) * Y) ≤ suc k * (o * X)
          last Y X k v l h = le_of_mul-le-mul_right {k = o} (go (mul-le-mul_left (Y * (o + a)) l) h) po
            where
              go :
                  Y * (o + a) * (k * o) ≤ Y * (o + a) * v → Y * (o + a) * v ≤ X * o * (suc k * o)
                  → k * ((o + a) * Y) * o ≤ suc k * (o * X) * o
              go i j = chained (Y * (o + a) * v) (left i) (right j)
                where
                  chained : {a c : ℕ} (b : ℕ) → a ≤ b → b ≤ c → a ≤ c
                  chained b h k = le_trans h k

                  left : Y * (o + a) * (k * o) ≤ Y * (o + a) * v → k * ((o + a) * Y) * o ≤ Y * (o + a) * v
                  left i = le_trans (le_of_eq (omega arith)) i

                  right : Y * (o + a) * v ≤ X * o * (suc k * o) → Y * (o + a) * v ≤ suc k * (o * X) * o
                  right j = le_trans j (le_of_eq (omega arith))
