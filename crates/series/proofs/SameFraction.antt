-- L depends on the fraction alone: neither on how it is written nor on how its k and m are. Assumes nothing.
use mathlib.Core.Path.{◌≡◌, refl, sym, ap, ap₂, ◌∙◌}
use Prim.Native.Nat.{ℕ, suc, ◌+◌, ◌-◌, ◌*◌, ◌^◌, ◌≤◌, ◌<◌}
use native.Mathlib.Nat.{le_of_mul-le-mul_right, lt_of_not-le, not-le_of_lt, mul-pos, mul-le-mul_left, mul-lt-mul_of_pos_right}
use native.Mathlib.Nat.{eq_of_mul-eq-mul_right, pow-suc, lt_of_mul-lt-mul_right}
use native.Mathlib.Omega.{arith}
use lib.Pow.{pow-add, pow_pos, pow_mono}
use Rattle.series.specs.Series.{s_num, s_den, Written, Same, lAt, lOf}
use Rattle.series.proofs.Order.{S-of_same}
use Rattle.series.proofs.Written.{written}

-- B ≤ A, from A D = C B with D ≤ C; A < 2B, with C < 2D
at_least : (A B C D : ℕ) → 0 < D → A * D ≡ C * B → D ≤ C → B ≤ A
at_least A B C D pd e h = le_of_mul-le-mul_right {k = D} (omega (arith, mul-le-mul_left B h)) pd

less_than : (A B C D : ℕ) → 0 < B → A * D ≡ C * B → C < 2 * D → A < 2 * B
less_than A B C D pb e h = lt_of_mul-lt-mul_right D (omega (arith, mul-lt-mul_of_pos_right h pb))

-- 2^k ≤ x < 2^(k+1) at two ways to write x leaves no room for two k
powers_meet :
    (a b a' b' p q p' q' : ℕ) → 0 < a' * p' → a * b' ≡ a' * b → b' * q' ≤ a' * p' → a * p < 2 * (b * q) → p * q' < 2 * (p' * q)
powers_meet a b a' b' p q p' q' pa e lo hi =
    lt_of_mul-lt-mul_right (a * b') (omega (
      arith,
      mul-le-mul_left (a * p) lo,
      mul-lt-mul_of_pos_right hi pa,
      ap
          (λ (t : ℕ). 2 * (p' * q) * t) e,
    ))

exponent_le : (i j k l : ℕ) → 2 ^ i * 2 ^ j < 2 * (2 ^ k * 2 ^ l) → i + j ≤ k + l
exponent_le i j k l h = omega (arith, lt_of_not-le (λ (g : suc (k + l) ≤ i + j). not-le_of_lt below (pow_mono g)))
  where
    below : 2 ^ (i + j) < 2 ^ suc (k + l)
    below = omega (arith, pow-add 2 i j, pow-add 2 k l, pow-suc 2 (k + l))

pub positive_below : {a b u f c d : ℕ} → Written a b u f c d → 0 < d
positive_below {c = c} {d = d} w = go c d w.from_one w.below_two
  where
    go : (c d : ℕ) → d ≤ c → c < 2 * d → 0 < d
    go c d l h = omega arith

-- x is from 1 up where its k is not negative, and below 1 where it is
pub from_one_of : {a b u c d : ℕ} → Written a b u 0 c d → b ≤ a
from_one_of {a} {b} {u} {c} {d} w =
    let h : b * 2 ^ u ≤ a * 1 = at_least (a * 1) (b * 2 ^ u) c d (positive_below w) w.value w.from_one in
    omega (arith, mul-le-mul_left b (pow_pos u))

pub below_one_of : {a b f c d : ℕ} → Written a b 0 f c d → 0 < b → 1 ≤ f → a < b
below_one_of {a} {b} {f} {c} {d} w pb h =
    let l : a * 2 ^ f < 2 * (b * 1) = less_than (a * 2 ^ f) (b * 1) c d (omega arith) w.value w.below_two in
    omega (arith, mul-le-mul_left a (pow_mono {i = 1} {j = f} h))

mantissas_meet : (A B A' B' c d c' d' : ℕ) → 0 < A' * B → A * d ≡ c * B → A' * d' ≡ c' * B' → A * B' ≡ A' * B → c * d' ≡ c' * d
mantissas_meet A B A' B' c d c' d' p e e' s =
    eq_of_mul-eq-mul_right (A' * B) p (c * d') (c' * d) (regrouped ∙ ap₂ ◌*◌ (sym e) e' ∙ regrouped' ∙ ap (λ (t : ℕ). c' * d * t) s)
  where
    regrouped : c * d' * (A' * B) ≡ c * B * (A' * d')
    regrouped = mul_shuffle c d' A' B
      where
        mul_shuffle : (c d a b : ℕ) → c * d * (a * b) ≡ c * b * (a * d)
        mul_shuffle c d a b = omega arith

    regrouped' : A * d * (c' * B') ≡ c' * d * (A * B')
    regrouped' = mul_shuffle A d c' B'
      where
        mul_shuffle : (a d c b : ℕ) → a * d * (c * b) ≡ c * d * (a * b)
        mul_shuffle a d c b = omega arith

-- (c-d)/(c+d) is a function of c/d
ratios_meet : (c d c' d' : ℕ) → d ≤ c → d' ≤ c' → c * d' ≡ c' * d → (c - d) * (c' + d') ≡ (c' - d') * (c + d)
ratios_meet c d c' d' l l' e = go (c - d) (c' - d') (omega arith) (omega arith)
  where
    go : (p p' : ℕ) → c ≡ d + p → c' ≡ d' + p' → p * (c' + d') ≡ p' * (c + d)
    go p p' h h' =
        let k : (d + p) * d' ≡ (d' + p') * d = ap (λ (t : ℕ). t * d') (sym h) ∙ e ∙ ap (λ (t : ℕ). t * d) h' in
        rw (h, h') (omega arith)

sums_meet :
    (u f u' f' t T N D N' D' : ℕ) → u + f' ≡ u' + f → N * D' ≡ N' * D
    → (u * (t * D) + N * T) * (T * D') + f' * (t * D') * (T * D) ≡ (u' * (t * D') + N' * T) * (T * D) + f * (t * D) * (T * D')
sums_meet u f u' f' t T N D N' D' e h = omega (arith, ap (λ (x : ℕ). x * (t * T * D * D')) e, ap (λ (x : ℕ). T * T * x) h)

-- two ways to write one fraction, x = a/b = a'/b'
module _
    {a b u f c d a' b' u' f' c' d' : ℕ} (w : Written a b u f c d) (w' : Written a' b' u' f' c' d') (pa : 0 < a) (pb : 0 < b) (pa' : 0 < a')
    (pb' : 0 < b') (same : a * b' ≡ a' * b) where
  same_exponent : u + f' ≡ u' + f
  same_exponent =
      let p : f + u' ≤ f' + u =
      exponent_le f u' f' u
      (powers_meet a b a' b' (2 ^ f) (2 ^ u) (2 ^ f') (2 ^ u') (mul-pos pa' (pow_pos f')) same
      (at_least (a' * 2 ^ f') (b' * 2 ^ u') c' d' (positive_below w') w'.value w'.from_one)
      (less_than (a * 2 ^ f) (b * 2 ^ u) c d (mul-pos pb (pow_pos u)) w.value w.below_two)) in
      let q : f' + u ≤ f + u' =
      exponent_le f' u f u'
      (powers_meet a' b' a b (2 ^ f') (2 ^ u') (2 ^ f) (2 ^ u) (mul-pos pa (pow_pos f)) (sym same)
      (at_least (a * 2 ^ f) (b * 2 ^ u) c d (positive_below w) w.value w.from_one)
      (less_than (a' * 2 ^ f') (b' * 2 ^ u') c' d' (mul-pos pb' (pow_pos u')) w'.value w'.below_two)) in
      omega arith

  same_mantissa : c * d' ≡ c' * d
  same_mantissa =
      mantissas_meet (a * 2 ^ f) (b * 2 ^ u) (a' * 2 ^ f') (b' * 2 ^ u') c d c' d'
      (mul-pos (mul-pos pa' (pow_pos f')) (mul-pos pb (pow_pos u)))
      w.value
      w'.value
      (regrouped a (2 ^ f) b' (2 ^ u') ∙ ap₂ ◌*◌ same powers ∙ sym (regrouped a' (2 ^ f') b (2 ^ u)))
    where
      regrouped : (a p b q : ℕ) → a * p * (b * q) ≡ a * b * (p * q)
      regrouped a p b q = omega arith

      exponents : f + u' ≡ f' + u
      exponents = omega (arith, same_exponent)

      powers : 2 ^ f * 2 ^ u' ≡ 2 ^ f' * 2 ^ u
      powers = sym (pow-add 2 f u') ∙ ap (λ (k : ℕ). 2 ^ k) exponents ∙ pow-add 2 f' u

  -- L does not depend on how x, its k and its m are written
  pub L-of_same : Same (lAt u f c d) (lAt u' f' c' d')
  unfolding lAt
  L-of_same = record {
    crosswise =
        sums_meet u f u' f' (s_num 1 3) (s_den 3) _ _ _ _ same_exponent
        (S-of_same (c - d) (c + d) (c' - d') (c' + d') (omega (arith, positive_below w)) (omega (arith, positive_below w'))
        (ratios_meet c d c' d' w.from_one w'.from_one same_mantissa));
  }

-- L of a fraction is L by any k and m that 01 allows
pub L-by_any : {a b u f c d : ℕ} → 0 < a → 0 < b → Written a b u f c d → Same (lOf a b) (lAt u f c d)
unfolding lOf
L-by_any {a} {b} pa pb w = L-of_same (written a b pa pb) w pa pb pa pb refl

-- and of equal fractions the same
pub L-of_equal : (a b a' b' : ℕ) → 0 < a → 0 < b → 0 < a' → 0 < b' → a * b' ≡ a' * b → Same (lOf a b) (lOf a' b')
unfolding lOf
L-of_equal a b a' b' pa pb pa' pb' e = L-of_same (written a b pa pb) (written a' b' pa' pb') pa pb pa' pb' e
