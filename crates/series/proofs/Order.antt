-- S grows, and no faster than y: exact, on any fractions. Fractions are compared crosswise. Assumes nothing.
use mathlib.Core.Path.{◌≡◌, sym, ap, ap₂, ◌∙◌, subst}
use Prim.Native.Nat.{ℕ, ◌+◌, ◌*◌, ◌^◌, ◌-◌, ◌≤◌, ◌<◌}
use native.Mathlib.Nat.{le_trans, le_of_eq, le_antisymm, le-add_right, mul_comm, mul-add, add-mul, mul-pos, mul-le-mul_left}
use native.Mathlib.Nat.{le_of_mul-le-mul_right, le_dest}
use native.Mathlib.Omega.{arith}
use Rattle.series.specs.Series.{s_num, s_den}
use Rattle.series.proofs.OddPowers.{odds, odds_grow_at_least, odds_homogeneous}
use Rattle.series.proofs.Growth.{grows_at_most}
use Rattle.series.proofs.Terms.{all_odds, weight, weights, s_num_by_weights, s_den_by_weights}

-- at one denominator
odds_monotone : (p r q : ℕ) → p ≤ r → odds weight 40 p q ≤ odds weight 40 r q
odds_monotone p r q h =
    let d : (e : ℕ) × (p + e ≡ r) = le_dest h in
    subst (λ (x : ℕ). odds weight 40 p q ≤ odds weight 40 x q) d.1
    (le_trans (le-add_right _ _) (odds_grow_at_least weight all_odds 40 weights p d.0 q))

-- at a common denominator q s
crossed :
    (a b c d e f q s l D E : ℕ) → a * s ≡ c * e → b * q ≡ d * f → D * q ≡ l * f → E * s ≡ l * e → a ≤ b
    → 2 * c * E * (q * s) ≤ 2 * d * D * (q * s)
crossed a b c d e f q s l D E x y hD hE h =
    le_trans {m = 2 * l * q * s * a} (le_of_eq (omega (arith, ap (λ (t : ℕ). 2 * l * q * t) x, ap (λ (t : ℕ). 2 * c * q * t) hE)))
    (le_trans (mul-le-mul_left (2 * l * q * s) h) (le_of_eq (omega (
      arith,
      ap (λ (t : ℕ). 2 * l * s * t) y,
      ap (λ (t : ℕ). 2 * d * s * t)
          hD,
    ))))

-- p/q ≤ r/s gives S(p/q) ≤ S(r/s)
pub S-grows : (p q r s : ℕ) → 0 < q → 0 < s → p * s ≤ r * q → s_num p q * s_den s ≤ s_num r s * s_den q
S-grows p q r s pq ps h =
    rw (s_num_by_weights p q, s_num_by_weights r s)
    (le_of_mul-le-mul_right {k = q * s}
    (crossed (odds weight 40 (p * s) (q * s)) (odds weight 40 (r * q) (s * q)) (odds weight 40 p q) (odds weight 40 r s) (s ^ 80) (q ^ 80) q
    s all_odds (s_den q) (s_den s)
    (odds_homogeneous weight 40 s p q)
    (odds_homogeneous weight 40 q r s)
    (s_den_by_weights q)
    (s_den_by_weights s)
    (subst (λ (x : ℕ). odds weight 40 (p * s) (q * s) ≤ odds weight 40 (r * q) x) (mul_comm q s) (odds_monotone (p * s) (r * q) (q * s) h)))
    (mul-pos pq ps))

-- S depends on the fraction alone, not on how it is written
pub S-of_same : (p q r s : ℕ) → 0 < q → 0 < s → p * s ≡ r * q → s_num p q * s_den s ≡ s_num r s * s_den q
S-of_same p q r s pq ps h = le_antisymm (S-grows p q r s pq ps (le_of_eq h)) (S-grows r s p q ps pq (le_of_eq (sym h)))

pub one-sum : (y l v q q' s D : ℕ) → D * q ≡ l * s → l * (2 * y * (v * q' * s)) ≡ y * (2 * v * D) * (q * q')
one-sum y l v q q' s D e = omega (arith, ap (λ (t : ℕ). 2 * y * v * q' * t) e)

pub both_denominators : (l d q q' s s' D D' : ℕ) → D * q ≡ l * s → D' * q' ≡ l * s' → l * (d * (l * (s * s'))) ≡ d * (D * D') * (q * q')
both_denominators l d q q' s s' D D' e e' = omega (arith, ap (λ (t : ℕ). d * l * s * t) e', ap (λ (t : ℕ). d * D' * q' * t) e)

multiplied :
    (y l v v' q q' s s' D D' d : ℕ) → D * q ≡ l * s → D' * q' ≡ l * s' → 2 * y * (v' * q' * s) ≤ 2 * y * (v * q * s') + d * (l * (s * s'))
    → y * (2 * v' * D) * (q * q') ≤ (y * (2 * v * D') + d * (D * D')) * (q * q')
multiplied y l v v' q q' s s' D D' d e e' h =
    le_trans (le_of_eq (sym (one-sum y l v' q q' s D e)))
    (le_trans (mul-le-mul_left l h)
    (le_of_eq
    (mul-add l (2 * y * (v * q * s')) (d * (l * (s * s')))
    ∙ ap₂ ◌+◌ (one-sum y l v q' q s' D' e' ∙ ap (λ (x : ℕ). y * (2 * v * D') * x) (mul_comm q' q))
    (both_denominators l d q q' s s' D D' e e')
    ∙ sym (add-mul (y * (2 * v * D')) (d * (D * D')) (q * q')))))

-- The Lipschitz law: S at (y+d-b)/(y+d+b) is at most S at (y-b)/(y+b) and d/y, where y = b + p
pub S-lipschitz :
    (b p d : ℕ) → 0 < b + p
    → (b + p) * (s_num (p + d) (b + b + p + d) * s_den (b + b + p))
    ≤ (b + p) * (s_num p (b + b + p) * s_den (b + b + p + d)) + d * (s_den (b + b + p) * s_den (b + b + p + d))
S-lipschitz b p d h =
    rw (s_num_by_weights p (b + b + p), s_num_by_weights (p + d) (b + b + p + d))
    (le_of_mul-le-mul_right {k = (b + b + p) * (b + b + p + d)}
    (multiplied (b + p) all_odds _ _ (b + b + p) (b + b + p + d) ((b + b + p) ^ 80) ((b + b + p + d) ^ 80) _ _ d
    (s_den_by_weights (b + b + p)) (s_den_by_weights (b + b + p + d))
    (grows_at_most weight all_odds 40 weights b d p (p + d) (b + b + p) (b + b + p + d) (b + p) (b + p + d) (omega arith) (omega arith)
    (omega arith) (omega arith)))
    (mul-pos (omega arith) (omega arith)))

-- S((m-1)/(m+1)) is at most S(1/3) for m = c/d up to 2
pub S-at_most_third : (c d : ℕ) → 0 < d → d ≤ c → c ≤ 2 * d → s_num (c - d) (c + d) * s_den 3 ≤ s_num 1 3 * s_den (c + d)
S-at_most_third c d pd lo hi = S-grows (c - d) (c + d) 1 3 (omega arith) (omega arith) (omega arith)
