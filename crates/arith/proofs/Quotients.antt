-- Whole quotients and remainders. In order: long division digit by digit; quotients rounded up; a multiple less a number; fractions
-- compared by their whole parts in units of 1/u.
-- Not here: a quotient of a sum of a multiple and a rest (lib.Arith), the laws of _/_ and _%_ (native.Mathlib.Nat). Assumes nothing.
use mathlib.Core.Path.{◌≡◌, sym, ap, ◌∙◌}
use Prim.Native.Nat.{ℕ, zero, ◌+◌, ◌-◌, ◌*◌, ◌/◌, ◌%◌, ◌≤◌, ◌<◌}
use native.Mathlib.Nat.{mul_comm, mul_right_comm, add-mul, one-mul, mul-pos, mul-le-mul_left, mul-le-mul_right, lt_of_mul-lt-mul_right}
use native.Mathlib.Nat.{div-add-mod', div-mul-le_self, lt-div-mul-add, mul-add-div_right, mul-add-mod_self_right, div-div-eq-div-mul}
use native.Mathlib.Nat.{add-div_right}
use native.Mathlib.Omega.{arith}
use lib.Arith.{digits_div}

-- ---- long division: the next digit of x / n in base k comes from the rest x % n

module _ (n : ℕ) (pn : zero < n) where
  next : (x k : ℕ) → x * k ≡ x / n * k * n + x % n * k
  next x k =
      ap (λ (y : ℕ). y * k) (sym (div-add-mod' x n)) ∙ add-mul (x / n * n) (x % n) k
      ∙ ap (λ (y : ℕ). y + x % n * k) (mul_right_comm (x / n) n k)

  pub next-digit : (x k : ℕ) → x * k / n ≡ x / n * k + x % n * k / n
  next-digit x k = ap (λ (y : ℕ). y / n) (next x k) ∙ mul-add-div_right pn (x / n * k) (x % n * k)

  pub next-rest : (x k : ℕ) → x * k % n ≡ x % n * k % n
  next-rest x k = ap (λ (y : ℕ). y % n) (next x k) ∙ mul-add-mod_self_right (x / n * k) n (x % n * k)

-- ---- rounded up: (a + (m - 1)) / m is the least whole number not below a / m

pub up_of_small : (m a : ℕ) → 0 < a → a ≤ m → 1 ≡ (a + (m - 1)) / m
up_of_small m a h l = sym (ap (λ (x : ℕ). x / m) (split m a h l) ∙ digits_div 1 {m = m} {r = a - 1} (small m a h l))
  where
    split : (m a : ℕ) → 0 < a → a ≤ m → a + (m - 1) ≡ 1 * m + (a - 1)
    split m a h l = omega arith

    small : (m a : ℕ) → 0 < a → a ≤ m → a - 1 < m
    small m a h l = omega arith

-- a common factor cancels
pub up_of_factor : (a b p : ℕ) → 0 < b → 0 < p → (a * p + (b * p - 1)) / (b * p) ≡ (a + (b - 1)) / b
up_of_factor a b p hb hp =
    ap (λ (x : ℕ). (a * p + (b * p - 1)) / x) (mul_comm b p) ∙ sym (div-div-eq-div-mul (a * p + (b * p - 1)) p b)
    ∙ ap (λ (x : ℕ). x / b) (ap (λ (x : ℕ). x / p) whole ∙ digits_div (a + (b - 1)) {m = p} {r = p - 1} (below p hp))
  where
    below : (p : ℕ) → 0 < p → p - 1 < p
    below p h = omega arith

    one_less : (b : ℕ) → 0 < b → b ≡ b - 1 + 1
    one_less b h = omega arith

    joined : (u v w p : ℕ) → w ≡ v + p → 0 < p → u + (w - 1) ≡ u + v + (p - 1)
    joined u v w p e h = omega arith

    whole : a * p + (b * p - 1) ≡ (a + (b - 1)) * p + (p - 1)
    whole =
        joined (a * p) ((b - 1) * p) (b * p) p
        (ap (λ (x : ℕ). x * p) (one_less b hb) ∙ add-mul (b - 1) 1 p ∙ ap (λ (x : ℕ). (b - 1) * p + x) (one-mul p)) hp
        ∙ ap (λ (x : ℕ). x + (p - 1)) (sym (add-mul a (b - 1) p))

pub up_of_positive : (a b : ℕ) → 0 < a → 0 < b → (a - 1) / b + 1 ≡ (a + (b - 1)) / b
up_of_positive a b ha hb = sym (ap (λ (x : ℕ). x / b) (split a b ha hb) ∙ add-div_right (a - 1) hb)
  where
    split : (a b : ℕ) → 0 < a → 0 < b → a + (b - 1) ≡ a - 1 + b
    split a b ha hb = omega arith

-- ---- a multiple k m less a: its quotient is k less a / m rounded up

module _ (k m a : ℕ) (pm : 0 < m) (h : a ≤ k * m) where
  abbrev c : ℕ
  c = (a + (m - 1)) / m

  pub up_reaches : a ≤ c * m
  up_reaches = go (c * m) (lt-div-mul-add {a = a + (m - 1)} pm)
    where
      go : (n : ℕ) → a + (m - 1) < n + m → a ≤ n
      go n l = omega arith

  pub up_below : c * m < a + m
  up_below = go (c * m) (div-mul-le_self (a + (m - 1)) m)
    where
      go : (n : ℕ) → n ≤ a + (m - 1) → n < a + m
      go n l = omega arith

  pub up_most : c ≤ k
  up_most =
      go c k (lt_of_mul-lt-mul_right m (one_more (c * m) (k * m) ((k + 1) * m) up_below h
      (add-mul k 1 m ∙ ap (λ (x : ℕ). k * m + x) (one-mul m))))
    where
      go : (x y : ℕ) → x < y + 1 → x ≤ y
      go x y l = omega arith

      one_more : (x y z : ℕ) → x < a + m → a ≤ y → z ≡ y + m → x < z
      one_more x y z p q e = omega arith

-- ---- whole parts in units of 1/u: what holds of fractions holds of them, but for one unit

sum-above :
    (c a b s t r d d' y : ℕ) → zero < d → zero < d' → s < a * d + d → t < b * y + y → c * d' ≤ r → y * (r * d) ≤ y * (s * d') + t * (d * d')
    → c < a + b + 2
sum-above c a b s t r d d' y pd pd' ha hb hc k =
    lt_of_mul-lt-mul_right (d * d' * y)
    (omega (arith, mul-pos pd pd', mul-le-mul_right (d * y) hc, k, mul-le-mul_right (y * d') ha, mul-le-mul_right (d * d') hb))

-- x'/d' ≤ x/d + e/y
pub quotient_at_most :
    (u x d x' d' e y : ℕ) → zero < d → zero < d' → zero < y → y * (x' * d) ≤ y * (x * d') + e * (d * d')
    → u * x' / d' ≤ u * x / d + u * e / y + 1
quotient_at_most u x d x' d' e y pd pd' py h =
    let r : u * x' / d' < u * x / d + u * e / y + 2 =
    sum-above _ _ _ (u * x) (u * e) (u * x') d d' y pd pd' (lt-div-mul-add pd) (lt-div-mul-add py) (div-mul-le_self (u * x') d')
    (omega (arith, mul-le-mul_left u h)) in
    omega arith

sum_below :
    (c a b s t r d d' y z : ℕ) → zero < d → zero < d' → zero < y → a * d ≤ s → b * y ≤ t → r < c * d' + d' → z ≤ d * d' * y
    → y * (s * d') + t * (d * d') ≤ y * (r * d) + z → a + b < c + 2
sum_below c a b s t r d d' y z pd pd' py ha hb hc hz k =
    lt_of_mul-lt-mul_right (d * d' * y)
    (omega (arith, mul-pos pd py, mul-le-mul_right (d' * y) ha, mul-le-mul_right (d * d') hb, mul-le-mul_right (d * y) hc))

-- x/d + e/y ≤ x'/d' + z/(d d' y), with z so small that u z ≤ d d' y
pub quotient_at_least :
    (u x d x' d' e y z : ℕ) → zero < d → zero < d' → zero < y → u * z ≤ d * d' * y → y * (x * d') + e * (d * d') ≤ y * (x' * d) + z
    → u * x / d + u * e / y ≤ u * x' / d' + 1
quotient_at_least u x d x' d' e y z pd pd' py hz h =
    let r : u * x / d + u * e / y < u * x' / d' + 2 =
    sum_below _ _ _ (u * x) (u * e) (u * x') d d' y (u * z) pd pd' py (div-mul-le_self (u * x) d) (div-mul-le_self (u * e) y)
    (lt-div-mul-add pd') hz
    (omega (arith, mul-le-mul_left u h)) in
    omega arith
