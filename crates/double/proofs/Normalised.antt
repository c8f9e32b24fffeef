-- A positive finite double as m * 2^(k - 1126), m from 2^52 up to 2^53, subnormals included: its units, its exact fraction, its binary
-- exponent. Assumes nothing.
use mathlib.Core.Path.{◌≡◌, refl, sym, ap, subst, ◌∙◌}
use mathlib.Core.Bool.{false}
use Prim.Native.Nat.{ℕ, zero, suc, ◌+◌, ◌-◌, ◌*◌, ◌^◌, ◌≤◌, ◌<◌}
use native.Mathlib.Nat.{not-suc-le-zero, mul_assoc, mul_comm, mul_right_comm, mul-le-mul_right, mul-lt-mul_of_pos_right}
use native.Mathlib.Nat.{le_of_mul-le-mul_right, lt_of_mul-lt-mul_right, eq_of_mul-eq-mul_right, le_antisymm, lt_of_not-le, le_trans}
use native.Mathlib.Nat.{le_of_eq, lt_of_lt_of_le, lt_irrefl}
use native.Mathlib.Omega.{arith}
use lib.Dec.{T}
use lib.IntN.{ℤ}
use lib.Pow.{pow-add, pow_mono, pow_pos}
use lib.Count.{count_leading_zeros}
use lib.Ieee.{Float, fin, binary64, fits, to_bits, up, down, size}
use lib.Ieee.Digits.{size-le, size-lt}
use Rattle.double.specs.Fields.{field_of, digits_of, Units, mag, shift, normal_of}
use Rattle.double.specs.declared.Normal.{Normal}
use Rattle.double.proofs.Fields.{digits_lt, read}
use Rattle.double.proofs.Subnormals.{shifted, shift_is}

-- n units are m * 2^(k - 1126)
pub record Normalised (n m k : ℕ) : Type 0 where
  pub is : n * 2 ^ 52 ≡ m * 2 ^ k
  pub from : 2 ^ 52 ≤ m
  pub to : m < 2 ^ 53
  pub most : k < 2098

low_normalised : (t : ℕ) → 0 < t → t < 2 ^ 52 → Normalised t (t * 2 ^ shift t) (52 - shift t)
low_normalised t p l =
    let z = shifted t p l in
    let s = count_leading_zeros 64 t - 11 in
    let join : s + (52 - s) ≡ 52 = omega (arith, z.most) in
    subst (λ (a : ℕ). Normalised t (t * 2 ^ a) (52 - a)) (sym (shift_is t))
    (record {
      is = ap (λ (a : ℕ). t * 2 ^ a) (sym join) ∙ ap (λ (a : ℕ). t * a) (pow-add 2 s (52 - s)) ∙ sym (mul_assoc t (2 ^ s) (2 ^ (52 - s)));
      from = z.from;
      to = z.to;
      most = omega arith;
    })

mid_normalised : (j t : ℕ) → j < 2046 → t < 2 ^ 52 → Normalised ((2 ^ 52 + t) * 2 ^ j) (2 ^ 52 + t) (suc j + 51)
mid_normalised j t h l =
    let sum : j + 52 ≡ suc j + 51 = omega arith in
    record {
      is = mul_assoc (2 ^ 52 + t) (2 ^ j) (2 ^ 52) ∙ ap (λ (a : ℕ). (2 ^ 52 + t) * a) (sym (pow-add 2 j 52) ∙ ap (λ (a : ℕ). 2 ^ a) sum);
      from = omega arith;
      to = omega arith;
      most = omega arith;
    }

pub normalised : (f t : ℕ) → f < 2047 → t < 2 ^ 52 → 0 < mag f t → Normalised (mag f t) (normal_of f t).m (normal_of f t).k
unfolding mag normal_of
normalised zero t h l p = low_normalised t p l
normalised (suc j) t h l p = mid_normalised j t (omega arith) l

-- what `normal_of_low` answers
pub of_low : (t : ℕ) (r : Normal) → 0 < t → t < 2 ^ 52 → r ≡ normal_of 0 t → Normalised t r.m r.k
unfolding mag
of_low t r p l e = subst (λ (a : Normal). Normalised t a.m a.k) (sym e) (normalised 0 t (omega arith) l p)

-- past the field 0 there is nothing to shift
pub of_mid : (f t : ℕ) → (f ≡ 0 → ⊥) → normal_of f t ≡ record { m = 2 ^ 52 + t; k = f + 51 }
unfolding normal_of
of_mid zero t h = absurd (h refl)
of_mid (suc j) t h = refl

-- a positive finite double
pub of_double : (x : Float) (n : ℕ) → T (fits binary64 x) → Units x n → 0 < n
    → Normalised n (normal_of (field_of (to_bits binary64 x)) (digits_of (to_bits binary64 x))).m
    (normal_of (field_of (to_bits binary64 x)) (digits_of (to_bits binary64 x))).k
of_double x n F u p =
    let b = to_bits binary64 x in
    let r = read x false n F u in
    let f = field_of b in
    let t = digits_of b in
    subst (λ (a : ℕ). Normalised a (normal_of f t).m (normal_of f t).k) (sym r.size)
    (normalised f t r.field (digits_lt b) (subst (λ (a : ℕ). 0 < a) r.size p))

-- ---- the exact fraction s * up e / down e of the double, with the exponent k - 1074 = i or -i

module _ (s n m k : ℕ) (e : ℤ) (u : Units (fin false s e) n) (z : Normalised n m k) where
  whole_fraction : s * up e * 2 ^ 1074 * 2 ^ 52 ≡ m * 2 ^ k * down e
  whole_fraction = ap (λ (a : ℕ). a * 2 ^ 52) u.1 ∙ mul_right_comm n (down e) (2 ^ 52) ∙ ap (λ (a : ℕ). a * down e) z.is

  pub fraction_up : (i : ℕ) → k ≡ i + 1074 → s * up e * 2 ^ 52 ≡ m * (down e * 2 ^ i)
  fraction_up i h =
      eq_of_mul-eq-mul_right (2 ^ 1074) (pow_pos 1074) (s * up e * 2 ^ 52) (m * (down e * 2 ^ i))
      (mul_right_comm (s * up e) (2 ^ 52) (2 ^ 1074) ∙ whole_fraction
      ∙ ap (λ (a : ℕ). m * a * down e) (ap (λ (a : ℕ). 2 ^ a) h ∙ pow-add 2 i 1074) ∙ shape m (2 ^ i) (2 ^ 1074) (down e))
    where
      shape : (m p q d : ℕ) → m * (p * q) * d ≡ m * (d * p) * q
      shape m p q d = omega arith

  pub fraction_down : (i : ℕ) → k + i ≡ 1074 → s * up e * 2 ^ i * 2 ^ 52 ≡ m * down e
  fraction_down i h =
      eq_of_mul-eq-mul_right (2 ^ 1074) (pow_pos 1074) (s * up e * 2 ^ i * 2 ^ 52) (m * down e)
      (shape_left (s * up e) (2 ^ i) (2 ^ 52) (2 ^ 1074) ∙ ap (λ (a : ℕ). a * 2 ^ i) whole_fraction ∙ shape_right m (2 ^ k) (down e) (2 ^ i)
      ∙ ap (λ (a : ℕ). m * down e * a) (sym (pow-add 2 k i) ∙ ap (λ (a : ℕ). 2 ^ a) h))
    where
      shape_left : (a p c q : ℕ) → a * p * c * q ≡ a * q * c * p
      shape_left a p c q = omega arith

      shape_right : (m q d p : ℕ) → m * q * d * p ≡ m * d * (q * p)
      shape_right m q d p = omega arith

-- ---- the binary exponent: 2^k units at most, and below twice that

module _ (n m k : ℕ) (z : Normalised n m k) where
  pub exponent_from : 2 ^ k ≤ n
  exponent_from =
      le_of_mul-le-mul_right {k = 2 ^ 52}
      (le_trans (le_of_eq (mul_comm (2 ^ k) (2 ^ 52))) (le_trans (mul-le-mul_right (2 ^ k) z.from) (le_of_eq (sym z.is))))
      (pow_pos 52)

  pub exponent_to : n < 2 ^ suc k
  exponent_to =
      lt_of_mul-lt-mul_right (2 ^ 52)
      (subst (λ (a : ℕ). a < 2 ^ suc k * 2 ^ 52) (sym z.is) (subst (λ (a : ℕ). m * 2 ^ k < a)
      (sym (pow-add 2 53 k) ∙ ap (λ (a : ℕ). 2 ^ a) sum ∙ pow-add 2 (suc k) 52) (mul-lt-mul_of_pos_right z.to (pow_pos k))))
    where
      sum : 53 + k ≡ suc k + 52
      sum = omega arith

  -- the number of binary digits of the units is one above k
  pub size_is : size n ≡ suc k
  size_is =
      le_antisymm (size-le n (suc k) exponent_to)
      (lt_of_not-le (λ (g : size n ≤ k). lt_irrefl n (lt_of_lt_of_le (size-lt n) (le_trans (pow_mono g) exponent_from))))

-- at a field f from 1 to 2046 that is f + 52, so the exponent is f - 1023
pub size_of_normal : (f t : ℕ) → 1 ≤ f → f < 2047 → t < 2 ^ 52 → size (mag f t) ≡ f + 52
unfolding mag
size_of_normal zero t a h l = absurd (not-suc-le-zero a)
size_of_normal (suc j) t a h l =
    let sum : suc (suc j + 51) ≡ suc j + 52 = omega arith in
    size_is ((2 ^ 52 + t) * 2 ^ j) (2 ^ 52 + t) (suc j + 51) (mid_normalised j t (omega arith) l) ∙ sum
