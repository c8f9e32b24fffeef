-- The three terms that `short_series` sums, against the forty of S, for a ratio p/q up to 1/512: never above, and at most 40 units of 2^-64
-- below. Assumes nothing.
use Rattle.std.proofs.Common.{◌≡◌, ℕ, zero, suc, ◌+◌, ◌*◌, ◌/◌, ◌^◌, ◌<◌, ◌≤◌, sym, refl, ap, ◌∙◌, ap₂, le_trans, le_of_eq, add-le-add, mul-le-mul_right, mul_assoc, mul-le-mul, mul-le-mul_left, pow-suc, mul-add, div-mul-le_self, le_of_mul-le-mul_right, arith, pow-add}
use native.Mathlib.Nat.{le_of_mul-le-mul_left, pow-le-pow_left, lt-div-mul-add}
use Rattle.arith.proofs.Powers.{pow-one, pow-three, pow_five, pow_seven, pow_of_product}
use Rattle.series.specs.Series.{s_num, s_den}
use Rattle.series.proofs.OddPowers.{odds, first_terms_below, first_terms_above}
use Rattle.series.proofs.Terms.{all_odds, weight, weights, s_num_by_weights, s_den_by_weights}
use Rattle.logarithm.specs.Steps.{upper, short_series_of}

-- ---- a product of fractions of k, cut: x/k and y/k against a/c and b/d

product_below : (k x y z a b c d : ℕ) → zero < k → x * c ≤ k * a → y * d ≤ k * b → z * k ≤ x * y → z * (c * d) ≤ k * (a * b)
product_below k x y z a b c d pk hx hy hz =
    le_of_mul-le-mul_left {k = k}
    (le_trans {m = x * c * (y * d)} (omega (arith, mul-le-mul_right (c * d) hz)) (le_trans (mul-le-mul hx hy) (omega arith)))
    pk

product_above : (k x y z a b c d : ℕ) → zero < k → k * a ≤ x * c → k * b ≤ y * d → x * y ≤ z * k → k * (a * b) ≤ z * (c * d)
product_above k x y z a b c d pk hx hy hz =
    le_of_mul-le-mul_left {k = k}
    (le_trans {m = x * c * (y * d)}
    (le_trans {m = k * a * (k * b)} (omega arith) (mul-le-mul hx hy))
    (omega (arith, mul-le-mul_right (c * d) hz)))
    pk

pub upper-below : (a b : ℕ) → upper a b * 2 ^ 64 ≤ a * b
unfolding upper
upper-below a b = div-mul-le_self (a * b) (2 ^ 64)

pub upper-above : (a b : ℕ) → a * b < upper a b * 2 ^ 64 + 2 ^ 64
unfolding upper
upper-above a b = lt-div-mul-add {b = 2 ^ 64} (omega arith)

pub upper-le : (a b : ℕ) → b ≤ 2 ^ 64 → upper a b ≤ a
upper-le a b h = le_of_mul-le-mul_right {k = 2 ^ 64} (le_trans (upper-below a b) (mul-le-mul_left a h)) (omega arith)

-- factors that are each a little more leave the product within two units
upper_more : (a b x y : ℕ) → x ≤ 16 → y ≤ 16 → a ≤ 2 ^ 58 → b ≤ 2 ^ 58 → (a + x) * (b + y) ≤ (upper a b + 2) * 2 ^ 64
upper_more a b x y hx hy ha hb =
    let xb : x * b ≤ 16 * 2 ^ 58 = mul-le-mul hx hb in
    let ay : a * y ≤ 2 ^ 58 * 16 = mul-le-mul ha hy in
    let xy : x * y ≤ 16 * 16 = mul-le-mul hx hy in
    omega (arith, upper-above a b)

-- ---- the first three terms, over 15 q⁵

w₀ : weight 0 ≡ all_odds
w₀ = omega (arith, weights 0 (omega arith))

w₁ : 3 * weight 1 ≡ all_odds
w₁ = weights 1 (omega arith)

w₂ : 5 * weight 2 ≡ all_odds
w₂ = weights 2 (omega arith)

later_weights : (j : ℕ) → 3 ≤ j → j < 40 → 2 * weight j ≤ all_odds
later_weights (suc j) a b = omega (arith, weights (suc j) b)
later_weights zero a b = omega arith

three_terms :
    (p q : ℕ)
    → 15 * odds weight 3 p q ≡ all_odds * (15 * (p * (q * q * (q * q))) + 5 * (p * (p * p) * (q * q)) + 3 * (p * (p * p) * (p * p)))
unfolding odds
three_terms p q =
    rw
    (pow-one p, pow-three p, pow_five p)
    (omega (
      arith,
      ap (λ (x : ℕ). x * (p * (q * q * (q * q)))) w₀,
      ap (λ (x : ℕ). x * (p * (p * p) * (q * q))) w₁,
      ap (λ (x : ℕ). x * (p * (p * p) * (p * p))) w₂,
    ))

sum_below :
    (k t u v s p q : ℕ) → 15 * s ≤ 30 * t + 10 * u + 6 * v → t * q ≤ k * p → u * (q * (q * q)) ≤ k * (p * (p * p))
    → v * (q * (q * q) * (q * q)) ≤ k * (p * (p * p) * (p * p)) → s * (all_odds * (q * (q * q) * (q * q))) ≤ 2 * k * odds weight 3 p q
sum_below k t u v s p q hs ht hu hv =
    let a : 15 * s * (q * (q * q) * (q * q))
    ≤ k * (30 * (p * (q * q * (q * q))) + 10 * (p * (p * p) * (q * q)) + 6 * (p * (p * p) * (p * p))) =
    omega (
      arith,
      mul-le-mul_right (q * (q * q) * (q * q)) hs,
      mul-le-mul_right (30 * (q * q * (q * q))) ht,
      mul-le-mul_right (10 * (q * q))
          hu,
    ) in
    let e : 15 * odds weight 3 p q ≡ all_odds * (15 * (p * (q * q * (q * q))) + 5 * (p * (p * p) * (q * q)) + 3 * (p * (p * p) * (p * p))) =
    three_terms p q in
    omega (arith, mul-le-mul_left all_odds a, ap (λ (x : ℕ). 2 * k * x) e)

sum-above :
    (k t u v s p q : ℕ) → 30 * t + 10 * u + 6 * v ≤ 15 * s → k * p ≤ t * q → k * (p * (p * p)) ≤ u * (q * (q * q))
    → k * (p * (p * p) * (p * p)) ≤ v * (q * (q * q) * (q * q)) → 2 * k * odds weight 3 p q ≤ s * (all_odds * (q * (q * q) * (q * q)))
sum-above k t u v s p q hs ht hu hv =
    let a : k * (30 * (p * (q * q * (q * q))) + 10 * (p * (p * p) * (q * q)) + 6 * (p * (p * p) * (p * p)))
    ≤ 15 * s * (q * (q * q) * (q * q)) =
    omega (
      arith,
      mul-le-mul_right (q * (q * q) * (q * q)) hs,
      mul-le-mul_right (30 * (q * q * (q * q))) ht,
      mul-le-mul_right (10 * (q * q))
          hu,
    ) in
    let e : 15 * odds weight 3 p q ≡ all_odds * (15 * (p * (q * q * (q * q))) + 5 * (p * (p * p) * (q * q)) + 3 * (p * (p * p) * (p * p))) =
    three_terms p q in
    omega (arith, mul-le-mul_left all_odds a, ap (λ (x : ℕ). 2 * k * x) e)

-- ---- the rest of the forty terms: at most four units

eighty : (q : ℕ) → q ^ 80 ≡ q ^ 74 * (q * (q * q) * (q * q) * q)
eighty q = pow-add q 74 6 ∙ ap (λ (x : ℕ). q ^ 74 * x) (pow-suc q 5 ∙ ap (λ (x : ℕ). x * q) (pow_five q))

all_terms_below :
    (k s p q : ℕ) → s * (all_odds * (q * (q * q) * (q * q))) ≤ 2 * k * odds weight 3 p q
    → s * (all_odds * q ^ 80) ≤ k * (2 * odds weight 40 p q) * q
all_terms_below k s p q h =
    let f : odds weight 3 p q * q ^ 74 ≤ odds weight 40 p q = first_terms_below weight 37 3 p q in
    rw (eighty q) (shape (odds weight 3 p q) (odds weight 40 p q) (q ^ 74) (q * (q * q) * (q * q)) h f)
  where
    shape : (a b z r : ℕ) → s * (all_odds * r) ≤ 2 * k * a → a * z ≤ b → s * (all_odds * (z * (r * q))) ≤ k * (2 * b) * q
    shape a b z r h f = omega (arith, mul-le-mul_right (z * q) h, mul-le-mul_left (2 * k * q) f)

three-part : (k s l q a z r : ℕ) → 2 * k * a ≤ s * (l * r) → 2 * k * (a * (q * q) * z) ≤ s * (l * (z * (r * q))) * q
three-part k s l q a z r h = omega (arith, mul-le-mul_right (z * q * q) h)

rest_part : (k l q z r x : ℕ) → 2 * k * x ≤ 4 * (r * (q * q)) → 2 * k * (l * x * z) ≤ 4 * (l * (z * (r * q))) * q
rest_part k l q z r x h = omega (arith, mul-le-mul_left (l * z) h)

whole_part : (k l q b y c : ℕ) → b * (q * q) + l * y ≤ c → k * (2 * b) * q * q ≤ 2 * k * c
whole_part k l q b y c h = le_trans {m = 2 * k * (b * (q * q))} (omega arith) (mul-le-mul_left (2 * k) (omega arith))

parts-above :
    (k s l q a b z r x y : ℕ) → 2 * k * a ≤ s * (l * r) → b * (q * q) + l * y ≤ a * (q * q) * z + l * x * z → 2 * k * x ≤ 4 * (r * (q * q))
    → k * (2 * b) * q * q ≤ (s + 4) * (l * (z * (r * q))) * q
parts-above k s l q a b z r x y h f g =
    le_trans
    (whole_part k l q b y _ f)
    (le_trans {m = s * (l * (z * (r * q))) * q + 4 * (l * (z * (r * q))) * q}
    (le_trans (le_of_eq (mul-add (2 * k) (a * (q * q) * z) (l * x * z)))
    (add-le-add (three-part k s l q a z r h) (rest_part k l q z r x g)))
    (omega arith))

all_terms_above :
    (k s p q : ℕ) → zero < q → 2 * (p * p) ≤ q * q → 2 * k * p ^ 7 ≤ 4 * q ^ 7
    → 2 * k * odds weight 3 p q ≤ s * (all_odds * (q * (q * q) * (q * q)))
    → k * (2 * odds weight 40 p q) * q ≤ (s + 4) * (all_odds * q ^ 80)
all_terms_above k s p q pq hp h7 h =
    let f : odds weight 40 p q * (q * q) + all_odds * p ^ 81 ≤ odds weight 3 p q * (q * q) * q ^ 74 + all_odds * p ^ 7 * q ^ 74 =
    first_terms_above weight all_odds 37 3 p q later_weights hp in
    let h7' : 2 * k * p ^ 7 ≤ 4 * (q * (q * q) * (q * q) * (q * q)) = rw (pow_seven q) at h7 in
    rw
    (eighty q)
    (le_of_mul-le-mul_right {k = q}
    (parts-above k s all_odds q (odds weight 3 p q) (odds weight 40 p q) (q ^ 74) (q * (q * q) * (q * q)) (p ^ 7) (p ^ 81) h f h7')
    pq)

-- ---- the computed powers of p/q

module _ (p q : ℕ) (pq : zero < q) (small : 512 * p ≤ q) where
  abbrev t : ℕ
  t = p * 2 ^ 60 / q * 16

  t-below : t * q ≤ 2 ^ 64 * p
  t-below = omega (arith, div-mul-le_self (p * 2 ^ 60) q)

  t-above : 2 ^ 64 * p ≤ (t + 16) * q
  t-above = let h : p * 2 ^ 60 < p * 2 ^ 60 / q * q + q = lt-div-mul-add pq in omega arith

  t-le : t ≤ 2 ^ 55
  t-le = le_of_mul-le-mul_right {k = q} (le_trans t-below (omega arith)) pq

  abbrev t² : ℕ
  t² = upper t t

  abbrev t³ : ℕ
  t³ = upper t t²

  abbrev t⁵ : ℕ
  t⁵ = upper t³ t²

  t²-le : t² ≤ 2 ^ 55
  t²-le = le_trans (upper-le t t (omega (arith, t-le))) t-le

  t³-le : t³ ≤ 2 ^ 55
  t³-le = le_trans (upper-le t t² (omega (arith, t²-le))) t-le

  t²-below : t² * (q * q) ≤ 2 ^ 64 * (p * p)
  t²-below = product_below (2 ^ 64) t t t² p p q q (omega arith) t-below t-below (upper-below t t)

  t²-above : 2 ^ 64 * (p * p) ≤ (t² + 2) * (q * q)
  t²-above =
      product_above (2 ^ 64) (t + 16) (t + 16) (t² + 2) p p q q (omega arith) t-above t-above
      (upper_more t t 16 16 (omega arith) (omega arith) (omega (arith, t-le)) (omega (arith, t-le)))

  t³-below : t³ * (q * (q * q)) ≤ 2 ^ 64 * (p * (p * p))
  t³-below = product_below (2 ^ 64) t t² t³ p (p * p) q (q * q) (omega arith) t-below t²-below (upper-below t t²)

  t³-above : 2 ^ 64 * (p * (p * p)) ≤ (t³ + 2) * (q * (q * q))
  t³-above =
      product_above (2 ^ 64) (t + 16) (t² + 2) (t³ + 2) p (p * p) q (q * q) (omega arith) t-above t²-above
      (upper_more t t² 16 2 (omega arith) (omega arith) (omega (arith, t-le)) (omega (arith, t²-le)))

  t⁵-below : t⁵ * (q * (q * q) * (q * q)) ≤ 2 ^ 64 * (p * (p * p) * (p * p))
  t⁵-below = product_below (2 ^ 64) t³ t² t⁵ (p * (p * p)) (p * p) (q * (q * q)) (q * q) (omega arith) t³-below t²-below (upper-below t³ t²)

  t⁵-above : 2 ^ 64 * (p * (p * p) * (p * p)) ≤ (t⁵ + 2) * (q * (q * q) * (q * q))
  t⁵-above =
      product_above (2 ^ 64) (t³ + 2) (t² + 2) (t⁵ + 2) (p * (p * p)) (p * p) (q * (q * q)) (q * q) (omega arith) t³-above t²-above
      (upper_more t³ t² 2 2 (omega arith) (omega arith) (omega (arith, t³-le)) (omega (arith, t²-le)))

  whole_divisions_below : (a b c : ℕ) → 15 * (2 * a + 2 * b / 3 + 2 * c / 5) ≤ 30 * a + 10 * b + 6 * c
  whole_divisions_below a b c = omega arith

  whole_divisions_above : (a b c : ℕ) → 30 * (a + 16) + 10 * (b + 2) + 6 * (c + 2) ≤ 15 * (2 * a + 2 * b / 3 + 2 * c / 5 + 36)
  whole_divisions_above a b c = omega arith

  sevenths : 2 * 2 ^ 64 * p ^ 7 ≤ 4 * q ^ 7
  sevenths = let h : (512 * p) ^ 7 ≤ q ^ 7 = pow-le-pow_left small 7 in omega (arith, pow_of_product 512 p 7)

  pub short_series_below : short_series_of t * s_den q ≤ 2 ^ 64 * s_num p q
  unfolding short_series_of
  short_series_below =
      rw (s_num_by_weights p q)
      (le_of_mul-le-mul_right {k = q}
      (le_trans (le_of_eq (mul_assoc (short_series_of t) (s_den q) q ∙ ap (λ (x : ℕ). short_series_of t * x) (s_den_by_weights q)))
      (all_terms_below (2 ^ 64) _ p q (sum_below (2 ^ 64) t t³ t⁵ _ p q (whole_divisions_below t t³ t⁵) t-below t³-below t⁵-below)))
      pq)

  pub short_series_above : 2 ^ 64 * s_num p q ≤ (short_series_of t + 40) * s_den q
  unfolding short_series_of
  short_series_above =
      rw (s_num_by_weights p q)
      (le_of_mul-le-mul_right {k = q}
      (le_trans
      (all_terms_above (2 ^ 64) _ p q pq (omega (arith, mul-le-mul small small)) sevenths
      (sum-above (2 ^ 64) (t + 16) (t³ + 2) (t⁵ + 2) _ p q (whole_divisions_above t t³ t⁵) t-above t³-above t⁵-above))
      (le_of_eq (ap (λ (x : ℕ). (short_series_of t + 36 + 4) * x) (sym (s_den_by_weights q))
      ∙ sym (mul_assoc (short_series_of t + 36 + 4) (s_den q) q) ∙ ap (λ (x : ℕ). x * s_den q * q) (omega arith))))
      pq)

-- ---- what `short_series` comes to, for its overflows

pub record ThreeTerms (t t3 t5 : ℕ) : Type 0 where
  pub third_fits : 2 * t3 < 2 ^ 64
  pub two_fit : 2 * t + 2 * t3 / 3 < 2 ^ 64
  pub fifth_fits : 2 * t5 < 2 ^ 64
  pub all_fit : 2 * t + 2 * t3 / 3 + 2 * t5 / 5 < 2 ^ 64
  pub at_most : 2 * t + 2 * t3 / 3 + 2 * t5 / 5 ≤ 4 * t
  pub total : 2 * t + 2 * t3 / 3 + 2 * t5 / 5 ≡ short_series_of t

pub three_terms_of : (t t2 t3 t5 : ℕ) → t ≤ 2 ^ 56 → t2 ≡ upper t t → t3 ≡ upper t t2 → t5 ≡ upper t3 t2 → ThreeTerms t t3 t5
unfolding short_series_of
three_terms_of t t2 t3 t5 ht e2 e3 e5 =
    let h2 : t2 ≤ t = le_trans (le_of_eq e2) (upper-le t t (omega arith)) in
    let h3 : t3 ≤ t = le_trans (le_of_eq e3) (upper-le t t2 (omega arith)) in
    let h5 : t5 ≤ t3 = le_trans (le_of_eq e5) (upper-le t3 t2 (omega arith)) in
    let e3' : t3 ≡ upper t (upper t t) = e3 ∙ ap (λ (x : ℕ). upper t x) e2 in
    let e5' : t5 ≡ upper (upper t (upper t t)) (upper t t) = e5 ∙ ap₂ upper e3' e2 in
    record {
      third_fits = omega arith;
      two_fit = omega arith;
      fifth_fits = omega arith;
      all_fit = omega arith;
      at_most = omega arith;
      total = ap₂ (λ (x y : ℕ). 2 * t + 2 * x / 3 + 2 * y / 5) e3' e5';
    }

pub short_series_le : (t : ℕ) → t ≤ 2 ^ 56 → short_series_of t ≤ 4 * t
short_series_le t h =
    let r : ThreeTerms t (upper t (upper t t)) (upper (upper t (upper t t)) (upper t t)) = three_terms_of t _ _ _ h refl refl refl in
    le_trans (le_of_eq (sym r.total)) r.at_most
