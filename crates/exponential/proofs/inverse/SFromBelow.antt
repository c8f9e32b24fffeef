-- S grows by not less than d/(y+d), but for one part in 3^80: the companion of series/proofs/Order's Lipschitz law. Exact, on any fractions
-- up to 1/3. Assumes nothing.
use Rattle.std.proofs.Common.{◌≡◌, ℕ, suc, ◌+◌, ◌-◌, ◌*◌, ◌^◌, ◌<◌, ◌≤◌, sym, ap, ◌∙◌, le_trans, le_of_eq, mul-le-mul_right, mul_comm, mul-le-mul_left, mul-pos, mul-add, le_of_mul-le-mul_right, arith}
use native.Mathlib.Nat.{pow-le-pow_left}
use Rattle.arith.proofs.Powers.{pow_of_product}
use Rattle.series.specs.Series.{s_num, s_den}
use Rattle.series.proofs.OddPowers.{odds}
use Rattle.series.proofs.Growth.{grows_at_least}
use Rattle.series.proofs.Terms.{all_odds, weight, weights, s_num_by_weights, s_den_by_weights, s_den-pos}
use Rattle.series.proofs.Order.{S-grows, one-sum, both_denominators}
use Rattle.series.proofs.change.LSizes.{third-one}

-- what 3^80 is over 1
unfoldable pub rest : ℕ
rest = 3 ^ 80 - 1

rest-is : suc rest ≡ 3 ^ 80
unfolding rest
rest-is = omega arith

-- ---- over plain numbers

few : (l d t s s' k : ℕ) → k * t ≤ s → k * (l * (d * (l * (t * s')))) ≤ l * (d * (l * (s * s')))
few l d t s s' k h = omega (arith, mul-le-mul_left (l * d * l * s') h)

multiplied :
    (y l v v' q q' s s' t D D' d c : ℕ) → D * q ≡ l * s → D' * q' ≡ l * s' → suc c * t ≤ s
    → 2 * y * (v * q * s') + d * (l * (s * s')) ≤ 2 * y * (v' * q' * s) + d * (l * (t * s'))
    → (suc c * (y * (2 * v * D')) + c * (d * (D * D'))) * (q * q') ≤ suc c * (y * (2 * v' * D)) * (q * q')
multiplied y l v v' q q' s s' t D D' d c e e' h g =
    go _ _ _ _ (y * (2 * v * D')) (d * (D * D')) (y * (2 * v' * D)) (q * q')
    (one-sum y l v q' q s' D' e' ∙ ap (λ (x : ℕ). y * (2 * v * D') * x) (mul_comm q' q))
    (both_denominators l d q q' s s' D D' e e')
    (one-sum y l v' q q' s D e)
    (few l d t s s' (suc c) h)
    (le_trans (le_of_eq (sym (mul-add l _ _))) (le_trans (mul-le-mul_left l g) (le_of_eq (mul-add l _ _))))
  where
    go :
        (a b e f A B E w : ℕ) → a ≡ A * w → b ≡ B * w → e ≡ E * w → suc c * f ≤ b → a + b ≤ e + f
        → (suc c * A + c * B) * w ≤ suc c * E * w
    go a b e f A B E w i j k l m =
        omega (arith, mul-le-mul_left (suc c) m, ap (λ (x : ℕ). c * x) i, ap (λ (x : ℕ). c * x) j, ap (λ (x : ℕ). c * x) k)

-- ---- the law

module _ (b p d : ℕ) (pb : 0 < b) (low : p ≤ b) where
  tail : suc rest * p ^ 80 ≤ (b + b + p) ^ 80
  tail =
      le_trans (le_of_eq (ap (λ (x : ℕ). x * p ^ 80) rest-is ∙ sym (pow_of_product 3 p 80))) (pow-le-pow_left (three b p low) 80)
    where
      three : (b p : ℕ) → p ≤ b → 3 * p ≤ b + b + p
      three b p h = omega arith

  -- S at (y+d-b)/(y+d+b) is at least S at (y-b)/(y+b) and (1 - 3^-80)·d/(y+d), where y = b + p is at most 2b
  pub S-from_below :
      suc rest * ((b + p + d) * (s_num p (b + b + p) * s_den (b + b + p + d))) + rest * (d * (s_den (b + b + p) * s_den (b + b + p + d)))
      ≤ suc rest * ((b + p + d) * (s_num (p + d) (b + b + p + d) * s_den (b + b + p)))
  S-from_below =
      rw (s_num_by_weights p (b + b + p), s_num_by_weights (p + d) (b + b + p + d))
      (le_of_mul-le-mul_right {k = (b + b + p) * (b + b + p + d)}
      (multiplied (b + p + d) all_odds (odds weight 40 p (b + b + p)) (odds weight 40 (p + d) (b + b + p + d)) (b + b + p) (b + b + p + d)
      ((b + b + p) ^ 80) ((b + b + p + d) ^ 80) (p ^ 80) (s_den (b + b + p)) (s_den (b + b + p + d)) d rest
      (s_den_by_weights (b + b + p)) (s_den_by_weights (b + b + p + d)) tail
      (grows_at_least weight all_odds 40 weights b d p (p + d) (b + b + p) (b + b + p + d) (b + p) (b + p + d) (omega arith) (omega arith)
      (omega arith) (omega arith)))
      (mul-pos (omega arith) (omega arith)))

-- S((m-1)/(m+1)) is at most 1 for m up to 2
pub S-at_most_one : (b p : ℕ) → 0 < b → p ≤ b → s_num p (b + b + p) ≤ s_den (b + b + p)
S-at_most_one b p pb h =
    le_of_mul-le-mul_right {k = s_den 3}
    (le_trans (S-grows p (b + b + p) 1 3 (omega arith) (omega arith) (omega arith))
    (le_trans (mul-le-mul_right (s_den (b + b + p)) third-one) (le_of_eq (mul_comm (s_den 3) (s_den (b + b + p))))))
    (s_den-pos 3 (omega arith))
