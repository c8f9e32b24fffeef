-- The estimate of the sum is within 12 units of it. Uncut, the sum is a polynomial of 21 coefficients, and the eight terms are one of eight:
-- that the first about c/64 has the second's coefficients, times the sum at c/64, is one test, computed for all 45 c. The rest is what the
-- cuts cost on both sides. Assumes nothing.
use Rattle.std.proofs.Common.{◌≡◌, ℕ, zero, suc, ◌+◌, ◌-◌, ◌*◌, ◌/◌, ◌%◌, ◌^◌, ◌<◌, ◌≤◌, Bool, T, List, [], ◌∷◌, sym, subst, le_trans, le_of_lt, mul-le-mul_right, mul-le-mul, mul-le-mul_left, mul-zero, div-le_self, div-mul-le_self, le_of_mul-le-mul_right, arith, lit<}
use native.Mathlib.Nat.{lt-div-mul-add}
use Rattle.arith.proofs.Tables.{every, at_index}
use Rattle.rounding.specs.Within.{Within}
use Rattle.exponential.specs.Sum.{factorial}
use Rattle.exponential.specs.Steps.{third_in64, coefficient, horner}
use Rattle.exponential.specs.Estimates.{four_of, eight_of, power_of, near_sum_of}
use Rattle.exponential.proofs.Coefficients.{horner-starts}
use Rattle.exponential.proofs.Horner.{horner_below_two}
use Rattle.exponential.proofs.Polynomials.{value_at, quotient, near_each, near_each_holds}
use Rattle.exponential.proofs.CutSums.{power, cut, uncut, cut_not_above, cut_not_below}

-- the coefficients, the last first
abbrev of_sum : ℕ → ℕ
of_sum d = coefficient (20 - d)

abbrev of_eight : ℕ → ℕ
of_eight d = coefficient (7 - d)

-- ---- the sum, uncut

horner_is_cut : (r d : ℕ) → d < 22 → horner r (18 + d) ≡ cut (2 ^ 64) of_sum r d
unfolding cut horner
horner_is_cut r zero l = horner-starts r 18 (lit< tt)
horner_is_cut r (suc d) l =
    let e : 18 + suc d ≡ suc (18 + d) = omega arith in
    let f : 38 - (18 + d) ≡ 20 - d = omega arith in
    rw (e, f, horner_is_cut r d (omega arith))

module _ (r : ℕ) (l : r ≤ third_in64 + 2048) where
  sum_is_cut : horner r 39 ≡ cut (2 ^ 64) of_sum r 21
  sum_is_cut = horner_is_cut r 21 (lit< tt)

  sum_not_above : horner r 39 * power (2 ^ 64) 20 ≤ value_at (uncut (2 ^ 64) of_sum 21) r
  sum_not_above = rw sum_is_cut (cut_not_above (2 ^ 64) of_sum r (lit< tt) 20)

  sum_not_below : value_at (uncut (2 ^ 64) of_sum 21) r ≤ (horner r 39 + 4) * power (2 ^ 64) 20
  sum_not_below = rw sum_is_cut (cut_not_below (2 ^ 64) of_sum r (lit< tt) 3 (omega arith) 20)

-- ---- the eight terms, uncut

-- Z^4 times the first four and x^4 times the next, which are Z^3 times too large each
joined :
    (Z x : ℕ) (k : ℕ → ℕ)
    → value_at (uncut Z k 8) x
    ≡ Z * Z * Z * Z * value_at (uncut Z (λ (d : ℕ). k (4 + d)) 4) x + x * x * x * x * value_at (uncut Z k 4) x
unfolding value_at uncut power
joined Z x k = go (k 7) (k 6) (k 5) (k 4) (value_at (uncut Z k 4) x)
  where
    go :
        (a b c d w : ℕ)
        → a * power Z 7 + x * (b * power Z 6 + x * (c * power Z 5 + x * (d * power Z 4 + x * w)))
        ≡ Z * Z * Z * Z * (a * power Z 3 + x * (b * power Z 2 + x * (c * power Z 1 + x * (d * power Z 0 + x * 0)))) + x * x * x * x * w
    go a b c d w = omega arith

-- a and b are the four terms cut, A and B uncut; s is x² and f is x⁴, cut
module _ (Z x a b A B s f q : ℕ) where
  abbrev cube : ℕ
  cube = Z * Z * Z

  fourth_not_above : s * Z ≤ x * x → f * Z ≤ s * s → f * cube ≤ x * x * x * x
  fourth_not_above hs hf = omega (arith, mul-le-mul_right (Z * Z) hf, mul-le-mul hs hs)

  fourth_not_below : x * x ≤ s * Z + Z → s * s ≤ f * Z + Z → 2 * s + 1 ≤ Z → x * x * x * x ≤ (f + 2) * cube
  fourth_not_below hs hf l =
      omega (arith, mul-le-mul hs hs, mul-le-mul_right (Z * Z) hf, mul-le-mul_right (Z * Z) l)

  eight_not_above :
      a * cube ≤ A → b * cube ≤ B → f * cube ≤ x * x * x * x → q * Z ≤ f * b
      → (a + q) * (cube * cube * Z) ≤ Z * Z * Z * Z * A + x * x * x * x * B
  eight_not_above ha hb hf hq =
      omega (arith, mul-le-mul_right (Z * Z * Z * Z) ha, mul-le-mul hf hb, mul-le-mul_right (cube * cube) hq)

  eight_not_below :
      A ≤ (a + 2) * cube → B ≤ (b + 2) * cube → x * x * x * x ≤ (f + 2) * cube → f * b ≤ q * Z + Z → 2 * b + 2 * f + 4 ≤ Z
      → Z * Z * Z * Z * A + x * x * x * x * B ≤ (a + q + 4) * (cube * cube * Z)
  eight_not_below ha hb hf hq l =
      omega (
        arith,
        mul-le-mul_right (Z * Z * Z * Z) ha,
        mul-le-mul hf hb,
        mul-le-mul_right (cube * cube) hq,
        mul-le-mul_right (cube * cube) l,
      )

four_at : (x : ℕ) → four_of x 0 ≡ cut (2 ^ 64) (λ (d : ℕ). of_eight (4 + d)) x 4
unfolding four_of cut
four_at x = simp (mul-zero x)

next_four_at : (x : ℕ) → four_of x 4 ≡ cut (2 ^ 64) of_eight x 4
unfolding four_of cut
next_four_at x = simp (mul-zero x)

-- one more term stays small
pub term_small : (x c y : ℕ) → x < 2 ^ 58 → c ≤ 2 ^ 62 → y ≤ 2 ^ 63 → c + x * y / 2 ^ 64 ≤ 2 ^ 62 + 2 ^ 57
term_small x c y hx hc hy = omega (arith, mul-le-mul (le_of_lt hx) hy)

pub coefficient_small : (i : ℕ) → coefficient i ≤ 2 ^ 62
unfolding coefficient
coefficient_small i = div-le_self (2 ^ 62) (factorial i)

module _ (x : ℕ) (l : x < 2 ^ 58) where
  pub four_small : (i : ℕ) → four_of x i ≤ 2 ^ 62 + 2 ^ 57
  unfolding four_of
  four_small i = term_small x _ _ l (coefficient_small i) (two (term_small x _ _ l (coefficient_small (i + 1)) (two (term_small x _ _ l
      (coefficient_small (i + 2)) (one (coefficient_small (i + 3)))))))
    where
      one : {y : ℕ} → y ≤ 2 ^ 62 → y ≤ 2 ^ 63
      one h = omega arith

      two : {y : ℕ} → y ≤ 2 ^ 62 + 2 ^ 57 → y ≤ 2 ^ 63
      two h = omega arith

  abbrev square : ℕ
  square = x * x / 2 ^ 64

  abbrev fourth : ℕ
  fourth = square * square / 2 ^ 64

  square_small : square ≤ 2 ^ 52
  square_small = go square (le_trans (div-mul-le_self (x * x) (2 ^ 64)) (mul-le-mul (le_of_lt l) (le_of_lt l)))
    where
      go : (s : ℕ) → s * 2 ^ 64 ≤ 2 ^ 58 * 2 ^ 58 → s ≤ 2 ^ 52
      go s h = omega arith

  fourth_small : fourth ≤ 2 ^ 40
  fourth_small = go fourth (le_trans (div-mul-le_self (square * square) (2 ^ 64)) (mul-le-mul square_small square_small))
    where
      go : (s : ℕ) → s * 2 ^ 64 ≤ 2 ^ 52 * 2 ^ 52 → s ≤ 2 ^ 40
      go s h = omega arith

  abbrev product : ℕ
  product = fourth * four_of x 4 / 2 ^ 64

  abbrev A : ℕ
  A = value_at (uncut (2 ^ 64) (λ (d : ℕ). of_eight (4 + d)) 4) x

  abbrev B : ℕ
  B = value_at (uncut (2 ^ 64) of_eight 4) x

  few : 2 * x ≤ 1 * 2 ^ 64
  few = omega arith

  sums_not_above : eight_of x * power (2 ^ 64) 7 ≤ value_at (uncut (2 ^ 64) of_eight 8) x
  unfolding power eight_of
  sums_not_above =
      subst (λ (n : ℕ). eight_of x * power (2 ^ 64) 7 ≤ n) (sym (joined (2 ^ 64) x of_eight))
      (eight_not_above (2 ^ 64) x (four_of x 0) (four_of x 4) A B square fourth product
      (rw (four_at x) (cut_not_above (2 ^ 64) (λ (d : ℕ). of_eight (4 + d)) x (lit< tt) 3))
      (rw (next_four_at x) (cut_not_above (2 ^ 64) of_eight x (lit< tt) 3))
      (fourth_not_above (2 ^ 64) x (four_of x 0) (four_of x 4) A B square fourth product
      (div-mul-le_self (x * x) (2 ^ 64)) (div-mul-le_self (square * square) (2 ^ 64)))
      (div-mul-le_self (fourth * four_of x 4) (2 ^ 64)))

  sums_not_below : value_at (uncut (2 ^ 64) of_eight 8) x ≤ (eight_of x + 4) * power (2 ^ 64) 7
  unfolding power eight_of
  sums_not_below =
      subst (λ (n : ℕ). n ≤ (eight_of x + 4) * power (2 ^ 64) 7) (sym (joined (2 ^ 64) x of_eight))
      (eight_not_below (2 ^ 64) x (four_of x 0) (four_of x 4) A B square fourth product
      (rw (four_at x) (cut_not_below (2 ^ 64) (λ (d : ℕ). of_eight (4 + d)) x (lit< tt) 1 few 3))
      (rw (next_four_at x) (cut_not_below (2 ^ 64) of_eight x (lit< tt) 1 few 3))
      (fourth_not_below (2 ^ 64) x (four_of x 0) (four_of x 4) A B square fourth product
      (le_of_lt (lt-div-mul-add {a = x * x} {b = 2 ^ 64} (lit< tt)))
      (le_of_lt (lt-div-mul-add {a = square * square} {b = 2 ^ 64} (lit< tt)))
      (omega (arith, square_small)))
      (le_of_lt (lt-div-mul-add {a = fourth * four_of x 4} {b = 2 ^ 64} (lit< tt)))
      (omega (arith, fourth_small, four_small 4)))

  pub eight_small : eight_of x ≤ 2 ^ 62 + 2 ^ 58
  unfolding eight_of
  eight_small = go (four_of x 0) product (four_small 0) (le_trans (div-mul-le_self (fourth * four_of x 4) (2 ^ 64))
      (mul-le-mul fourth_small (four_small 4)))
    where
      go : (a q : ℕ) → a ≤ 2 ^ 62 + 2 ^ 57 → q * 2 ^ 64 ≤ 2 ^ 40 * (2 ^ 62 + 2 ^ 57) → a + q ≤ 2 ^ 62 + 2 ^ 58
      go a q h l = omega arith

-- ---- the test

-- For the polynomials' whole numbers, of which 2^63·2^1280 make one unit of the sum, and for an x of 2^58 units of 2^-64 at most: 3 units for
-- all, of which 23/16 are the other coefficients'; each then takes a sixteenth, and the last stands for all terms beyond the eighth.
bounds : List ℕ
bounds =
    3 * (2 ^ 63 * power (2 ^ 64) 20) ∷ 23 * 2 ^ 1281 ∷ 22 * 2 ^ 1223 ∷ 21 * 2 ^ 1165 ∷ 20 * 2 ^ 1107 ∷ 19 * 2 ^ 1049 ∷ 18 * 2 ^ 991 ∷
    17 * 2 ^ 933 ∷ 16 * 2 ^ 875 ∷ []

right : ℕ → Bool
right c =
    near_each (c * 2 ^ 58) (2 ^ 58) (2 ^ 63) (power_of c * power (2 ^ 64) 13) (uncut (2 ^ 64) of_sum 21) (uncut (2 ^ 64) of_eight 8) bounds

all_right : T (every right 45)
unfolding every right near_each value_at quotient uncut power bounds power_of horner coefficient factorial
all_right = tt

-- ---- all together

-- h is the sum and W the sum uncut, u the eight terms and U the eight uncut, v is T·u over M, cut; Q and R are powers of 2^64
together :
    (M Q R T u v h U W : ℕ) → 0 < M * (Q * R) → T ≤ 2 * M → v * (2 * M) ≤ T * (2 * u) → T * (2 * u) ≤ v * (2 * M) + 2 * M
    → u * Q ≤ U → U ≤ (u + 4) * Q → h * (Q * R) ≤ W → W ≤ (h + 4) * (Q * R) → Within (M * W) (T * R * U) (3 * (M * (Q * R)))
    → Within v h 12
together M Q R T u v h U W p t v₁ v₂ u₁ u₂ h₁ h₂ w = record {
  not-above =
      le_of_mul-le-mul_right {k = M * (Q * R)}
      (omega (arith, mul-le-mul_right (Q * R) v₁, mul-le-mul_left (T * R) u₁, w.not-below, mul-le-mul_left M h₂)) p;
  not-below =
      le_of_mul-le-mul_right {k = M * (Q * R)}
      (omega (
        arith,
        mul-le-mul_left M h₁,
        w.not-above,
        mul-le-mul_left (T * R) u₂,
        mul-le-mul_right (Q * R) v₂,
        mul-le-mul_right (Q * R) t,
      ))
      p;
}

unit : 0 < 2 ^ 63 * (power (2 ^ 64) 7 * power (2 ^ 64) 13)
unfolding power
unit = lit< tt

module _ (r : ℕ) (l : r ≤ third_in64 + 2048) where
  abbrev c : ℕ
  c = r / 2 ^ 58

  abbrev x : ℕ
  x = r % 2 ^ 58

  pub c_small : c < 45
  c_small = omega arith

  x_small : x < 2 ^ 58
  x_small = omega arith

  polynomials :
      Within (2 ^ 63 * value_at (uncut (2 ^ 64) of_sum 21) r) (power_of c * power (2 ^ 64) 13 * value_at (uncut (2 ^ 64) of_eight 8) x)
      (3 * (2 ^ 63 * power (2 ^ 64) 20))
  unfolding right bounds
  polynomials =
      subst
      (λ (n : ℕ).
      Within (2 ^ 63 * value_at (uncut (2 ^ 64) of_sum 21) n) (power_of c * power (2 ^ 64) 13 * value_at (uncut (2 ^ 64) of_eight 8) x)
      (3 * (2 ^ 63 * power (2 ^ 64) 20)))
      (parts r)
      (near_each_holds (c * 2 ^ 58) (2 ^ 58) (2 ^ 63) (power_of c * power (2 ^ 64) 13) (uncut (2 ^ 64) of_sum 21) (uncut (2 ^ 64) of_eight 8) _ _
      (at_index right 45 all_right c c_small) x (le_of_lt x_small))
    where
      parts : (n : ℕ) → n / 2 ^ 58 * 2 ^ 58 + n % 2 ^ 58 ≡ n
      parts n = omega arith

  pub power_small : power_of c < 2 ^ 64
  unfolding power_of
  power_small = twice (horner (c * 2 ^ 58) 39) (horner_below_two (c * 2 ^ 58) (most c c_small))
    where
      twice : (h : ℕ) → h < 2 ^ 63 → 2 * h < 2 ^ 64
      twice h l = omega arith

      most : (n : ℕ) → n < 45 → n * 2 ^ 58 ≤ third_in64
      most n h = omega arith

  at_most : (t : ℕ) → t < 2 ^ 64 → t ≤ 2 * 2 ^ 63
  at_most t h = omega arith

  -- the estimate is within 12 units of the sum
  pub near_sum : Within (near_sum_of r) (horner r 39) 12
  unfolding near_sum_of power
  near_sum =
      together (2 ^ 63) (power (2 ^ 64) 7) (power (2 ^ 64) 13) (power_of c) (eight_of x) (near_sum_of r) (horner r 39)
      (value_at (uncut (2 ^ 64) of_eight 8) x) (value_at (uncut (2 ^ 64) of_sum 21) r)
      unit (at_most (power_of c) power_small)
      (div-mul-le_self (power_of c * (2 * eight_of x)) (2 ^ 64))
      (le_of_lt (lt-div-mul-add {a = power_of c * (2 * eight_of x)} {b = 2 ^ 64} (lit< tt)))
      (sums_not_above x x_small) (sums_not_below x x_small) (sum_not_above r l) (sum_not_below r l) polynomials
