-- The addition law: S((xy-1)/(xy+1)) is S((x-1)/(x+1)) + S((y-1)/(y+1)), but for steps that may be made as small as one likes.
-- Both sides are walked from y = 1 in m equal steps. A step of either lies between d/(y+d) and d/y, so the steps differ by what telescopes.
-- In whole numbers of 1/u. Assumes nothing.
use mathlib.Core.Path.{◌≡◌, refl, sym, ap, ap₂, ◌∙◌}
use Prim.Native.Nat.{ℕ, zero, suc, ◌+◌, ◌*◌, ◌^◌, ◌/◌, ◌≤◌, ◌<◌}
use native.Mathlib.Nat.{le_refl, le_trans, le_of_eq, le_step, mul_assoc, mul-le-mul_left, mul-le-mul_right, mul-pos, one-le-pow}
use native.Mathlib.Nat.{pow-le-pow_left, mul-div-mul_right, zero-div, le-add_left, lt-div-mul-add, div-mul-le_self}
use native.Mathlib.Omega.{arith}
use Rattle.arith.proofs.Powers.{pow_of_product}
use Rattle.arith.proofs.Quotients.{quotient_at_most, quotient_at_least}
use Rattle.series.specs.Series.{s_num, s_den}
use Rattle.series.proofs.OddPowers.{odds, odds_homogeneous, odds_at_zero}
use Rattle.series.proofs.Growth.{grows_at_most, grows_at_least}
use Rattle.series.proofs.Terms.{all_odds, all_odds-pos, weight, weights, s_num_by_weights, s_den_by_weights, s_den-pos}

-- two sequences whose steps lie about the same falling numbers b differ by little
close_steps :
    (f g b : ℕ → ℕ) (n : ℕ) → ((j : ℕ) → j < n → f (suc j) ≤ f j + b j + 1) → ((j : ℕ) → j < n → g j + b (suc j) ≤ g (suc j) + 1)
    → f n + g 0 + b n ≤ g n + f 0 + b 0 + 2 * n
close_steps f g b zero hf hg = omega arith
close_steps f g b (suc n) hf hg =
    omega (arith, close_steps f g b n (λ j k. hf j (le_step k)) (λ j k. hg j (le_step k)), hf n (le_refl (suc n)), hg n (le_refl (suc n)))

-- S(p/q) in whole numbers of 1/u, rounded down
unfoldable pub floor_s : ℕ → ℕ → ℕ → ℕ
floor_s u p q = u * s_num p q / s_den q

pub floor_s-below : (u p q : ℕ) → floor_s u p q * s_den q ≤ u * s_num p q
unfolding floor_s
floor_s-below u p q = div-mul-le_self (u * s_num p q) (s_den q)

pub floor_s-above : (u p q : ℕ) → zero < q → u * s_num p q ≤ (floor_s u p q + 1) * s_den q
unfolding floor_s
floor_s-above u p q h = let r : u * s_num p q < u * s_num p q / s_den q * s_den q + s_den q = lt-div-mul-add (s_den-pos q h) in omega arith

up_shape :
    (y l v v' s s' d : ℕ) → 2 * y * (v' * s) ≤ 2 * y * (v * s') + d * (l * (s * s'))
    → y * (2 * v' * (l * s)) ≤ y * (2 * v * (l * s')) + d * (l * s * (l * s'))
up_shape y l v v' s s' d h = omega (arith, mul-le-mul_left l h)

down_shape :
    (y l v v' s s' d t : ℕ) → 2 * y * (v * s') + d * (l * (s * s')) ≤ 2 * y * (v' * s) + d * (l * (t * s'))
    → y * (2 * v * (l * s')) + d * (l * s * (l * s')) ≤ y * (2 * v' * (l * s)) + l * (d * (l * (t * s')))
down_shape y l v v' s s' d t h = omega (arith, mul-le-mul_left l h)

tail_shape : (u l d t s s' y : ℕ) → u * t ≤ s → d ≤ y → u * (l * (d * (l * (t * s')))) ≤ l * s * (l * s') * y
tail_shape u l d t s s' y h k =
    le_trans {m = l * l * s' * (s * d)} (omega (arith, mul-le-mul_left (l * l * s' * d) h))
    (omega (arith, mul-le-mul_left (l * l * s' * s) k))

-- the units are coarse enough to swallow t^80 for t up to 1/3
module _ (u : ℕ) (coarse : u ≤ 3 ^ 80) where
  -- floor_s by the odd sum, over q^80
  unfoldable fl : ℕ → ℕ → ℕ
  fl p q = u * (2 * (odds weight 40 p q * q)) / (all_odds * q ^ 80)

  floor_s_by_weights : (p q : ℕ) → zero < q → floor_s u p q ≡ fl p q
  unfolding floor_s fl
  floor_s_by_weights p q h =
      sym (mul-div-mul_right (u * s_num p q) (s_den q) h)
      ∙ ap₂ ◌/◌ (ap (λ (x : ℕ). u * x * q) (s_num_by_weights p q) ∙ omega arith) (s_den_by_weights q)

  den_pos : (q : ℕ) → zero < q → zero < all_odds * q ^ 80
  den_pos q h = mul-pos all_odds-pos (one-le-pow 80 q h)

  tail : (p q : ℕ) → 3 * p ≤ q → u * p ^ 80 ≤ q ^ 80
  tail p q h =
      le_trans (mul-le-mul_right (p ^ 80) coarse) (le_trans (le_of_eq (sym (pow_of_product 3 p 80))) (pow-le-pow_left h 80))

  module _ (b p d : ℕ) (pb : zero < b) where
    step_up : fl (p + d) (b + b + p + d) ≤ fl p (b + b + p) + u * d / (b + p) + 1
    unfolding fl
    step_up =
        quotient_at_most u _ _ _ _ d (b + p) (den_pos (b + b + p) (omega arith)) (den_pos (b + b + p + d) (omega arith)) (omega arith)
        (up_shape (b + p) all_odds _ _ _ _ d
        (grows_at_most weight all_odds 40 weights b d p (p + d) (b + b + p) (b + b + p + d) (b + p) (b + p + d) (omega arith) (omega arith)
        (omega arith) (omega arith)))

    step_down : p ≤ b → fl p (b + b + p) + u * d / (b + p + d) ≤ fl (p + d) (b + b + p + d) + 1
    unfolding fl
    step_down h =
        quotient_at_least u _ _ _ _ d (b + p + d) _ (den_pos (b + b + p) (omega arith)) (den_pos (b + b + p + d) (omega arith))
        (omega arith)
        (tail_shape u all_odds d _ _ _ (b + p + d) (tail p (b + b + p) (omega arith)) (le-add_left d (b + p)))
        (down_shape (b + p + d) all_odds _ _ _ _ d _
        (grows_at_least weight all_odds 40 weights b d p (p + d) (b + b + p) (b + b + p + d) (b + p) (b + p + d) (omega arith) (omega arith)
        (omega arith) (omega arith)))

  fl_of_scaled : (k p q : ℕ) → zero < k → fl (p * k) (q * k) ≡ fl p q
  unfolding fl
  fl_of_scaled k p q pk =
      ap (λ (x : ℕ). u * (2 * x) / (all_odds * (q * k) ^ 80)) (omega (arith, ap (λ (x : ℕ). x * q) (odds_homogeneous weight 40 k p q)))
      ∙ ap (λ (x : ℕ). u * (2 * (odds weight 40 p q * q * k ^ 80)) / (all_odds * x)) (pow_of_product q k 80)
      ∙ ap (λ (x : ℕ). x / (all_odds * (q ^ 80 * k ^ 80))) (omega arith)
      ∙ ap (λ (x : ℕ). u * (2 * (odds weight 40 p q * q)) * k ^ 80 / x) (sym (mul_assoc all_odds (q ^ 80) (k ^ 80)))
      ∙ mul-div-mul_right (u * (2 * (odds weight 40 p q * q))) (all_odds * q ^ 80) (one-le-pow 80 k pk)

  pub floor_s_of_scaled : (k p q : ℕ) → zero < k → zero < q → floor_s u (p * k) (q * k) ≡ floor_s u p q
  floor_s_of_scaled k p q pk pq = floor_s_by_weights (p * k) (q * k) (mul-pos pq pk) ∙ fl_of_scaled k p q pk ∙ sym (floor_s_by_weights p q pq)

  up_at :
      (b p d p' q q' y : ℕ) → zero < b → p' ≡ p + d → q ≡ b + b + p → q' ≡ b + b + p + d → y ≡ b + p → fl p' q' ≤ fl p q + u * d / y + 1
  up_at b p d p' q q' y pb e₁ e₂ e₃ e₄ = rw (e₁, e₂, e₃, e₄) (step_up b p d pb)

  down_at :
      (b p d p' q q' y : ℕ) → zero < b → p ≤ b → p' ≡ p + d → q ≡ b + b + p → q' ≡ b + b + p + d → y ≡ b + p + d
      → fl p q + u * d / y ≤ fl p' q' + 1
  down_at b p d p' q q' y pb h e₁ e₂ e₃ e₄ = rw (e₁, e₂, e₃, e₄) (step_down b p d pb h)

  -- two bases b and c below the same point y = b + p = c + r: over m steps of d the two series grow alike
  abbrev walk : ℕ → ℕ → ℕ → ℕ → ℕ
  walk b p d j = fl (p + j * d) (b + b + p + j * d)

  abbrev stride : ℕ → ℕ → ℕ → ℕ
  stride y d j = u * d / (y + j * d)

  two_bases :
      (b p c r d m : ℕ) → zero < b → zero < c → b + p ≡ c + r → r + m * d ≤ c
      → fl (p + m * d) (b + b + p + m * d) + fl r (c + c + r)
      ≤ fl (r + m * d) (c + c + r + m * d) + fl p (b + b + p) + u * d / (b + p) + 2 * m
  two_bases b p c r d m pb pc same le = omega (arith, close_steps (walk b p d) (walk c r d) (stride (b + p) d) m hf hg, e₁, e₂, e₃)
    where
      hf : (j : ℕ) → j < m → walk b p d (suc j) ≤ walk b p d j + stride (b + p) d j + 1
      hf j k = up_at b (p + j * d) d _ _ _ _ pb (omega arith) (omega arith) (omega arith) (omega arith)

      hg : (j : ℕ) → j < m → walk c r d j + stride (b + p) d (suc j) ≤ walk c r d (suc j) + 1
      hg j k =
          down_at c (r + j * d) d _ _ _ _ pc (omega (arith, mul-le-mul_right d k)) (omega arith) (omega arith) (omega arith) (omega arith)

      e₁ : walk b p d 0 ≡ fl p (b + b + p)
      e₁ = ap₂ fl (omega arith) (omega arith)

      e₂ : walk c r d 0 ≡ fl r (c + c + r)
      e₂ = ap₂ fl (omega arith) (omega arith)

      e₃ : stride (b + p) d 0 ≡ u * d / (b + p)
      e₃ = ap (λ (x : ℕ). u * d / x) (omega arith)

  fl_at_zero : (q : ℕ) → fl 0 q ≡ 0
  unfolding fl
  fl_at_zero q =
      ap (λ (x : ℕ). u * (2 * (x * q)) / (all_odds * q ^ 80)) (odds_at_zero weight 40 q)
      ∙ ap (λ (x : ℕ). x / (all_odds * q ^ 80)) (omega arith)
      ∙ zero-div (all_odds * q ^ 80)

  -- x = (o+a)/o and y = (o+a+d)/(o+a), so that xy = (o+a+d)/o is at most 2: the two sides are within d/((o+a) m) + 2m/u
  module _ (o a d m : ℕ) (po : zero < o) (pm : zero < m) (le : a + d ≤ o) where
    whole_at : fl (a * m + m * d) (o * m + o * m + a * m + m * d) ≡ floor_s u (a + d) (o + o + a + d)
    whole_at =
        ap₂ fl (omega arith) (omega arith) ∙ fl_of_scaled m (a + d) (o + o + a + d) pm
        ∙ sym (floor_s_by_weights (a + d) (o + o + a + d) (omega arith))

    first-at : fl (a * m) (o * m + o * m + a * m) ≡ floor_s u a (o + o + a)
    first-at = ap₂ fl refl (omega arith) ∙ fl_of_scaled m a (o + o + a) pm ∙ sym (floor_s_by_weights a (o + o + a) (omega arith))

    second_at : fl (0 + m * d) ((o + a) * m + (o + a) * m + 0 + m * d) ≡ floor_s u d (o + a + (o + a) + d)
    second_at =
        ap₂ fl (omega arith) (omega arith) ∙ fl_of_scaled m d (o + a + (o + a) + d) pm
        ∙ sym (floor_s_by_weights d (o + a + (o + a) + d) (omega arith))

    nought : fl 0 ((o + a) * m + (o + a) * m + 0) ≡ 0
    nought = fl_at_zero ((o + a) * m + (o + a) * m + 0)

    point : o * m + a * m ≡ (o + a) * m + 0
    point = omega arith

    stride_at : (y : ℕ) → y ≡ (o + a) * m → u * d / y ≡ u * d / ((o + a) * m)
    stride_at y e = ap (λ (x : ℕ). u * d / x) e

    pub S-of_product_at_most :
        floor_s u (a + d) (o + o + a + d) ≤ floor_s u a (o + o + a) + floor_s u d (o + a + (o + a) + d) + u * d / ((o + a) * m) + 2 * m
    S-of_product_at_most =
        omega (
          arith,
          two_bases (o * m) (a * m) ((o + a) * m) 0 d m (mul-pos po pm) (mul-pos (omega arith) pm) point
              (omega (arith, mul-le-mul_left m le)),
          whole_at,
          first-at,
          second_at,
          nought,
          stride_at (o * m + a * m) (omega arith),
        )

    pub S-of_product_at_least :
        floor_s u a (o + o + a) + floor_s u d (o + a + (o + a) + d) ≤ floor_s u (a + d) (o + o + a + d) + u * d / ((o + a) * m) + 2 * m
    S-of_product_at_least =
        omega (
          arith,
          two_bases ((o + a) * m) 0 (o * m) (a * m) d m (mul-pos (omega arith) pm) (mul-pos po pm) (sym point)
              (omega (arith, mul-le-mul_left m le)),
          whole_at,
          first-at,
          second_at,
          nought,
          stride_at ((o + a) * m + 0) (omega arith),
        )
