-- The sum of the turns of S(1/3) and the mantissa's part, in units of 2^-53, against the exact L: within (n+3)/2 units, n turns. And below
-- 1 the turns outweigh the
-- mantissa's part, by a unit at least. Assumes nothing.
use Rattle.std.proofs.Common.{ℕ, zero, ◌+◌, ◌-◌, ◌*◌, ◌/◌, ◌^◌, ◌<◌, ◌≤◌, sym, le_trans, le_of_eq, le_refl, lt_of_lt_of_le, mul-le-mul_right, mul_assoc, mul-le-mul_left, one-mul, arith, leb→le}
use native.Mathlib.Nat.{le_of_mul-le-mul_left}
use lib.Ieee.Nearest.{div_mono}
use Rattle.series.specs.Series.{sum, odd_product, term, s_num, s_den}
use Rattle.series.proofs.Terms.{s_den-pos}
use Rattle.series.proofs.Order.{S-grows}
use Rattle.series.proofs.Addition.{floor_s, floor_s-below, floor_s-above}
use Rattle.logarithm.specs.Steps.{mantissa_of, ln2}
use Rattle.logarithm.proofs.Mantissas.{mantissa_above, mantissa_below}

-- ---- L = (turns ± part) / over, with the exponent n or -n and the mantissa m / 2^52

abbrev pub part : ℕ → ℕ
part m = s_num (m - 2 ^ 52) (m + 2 ^ 52) * s_den 3

abbrev pub turns : ℕ → ℕ → ℕ
turns n m = n * (s_num 1 3 * s_den (m + 2 ^ 52))

abbrev pub over : ℕ → ℕ
over m = s_den 3 * s_den (m + 2 ^ 52)

-- the mantissa's part in units of 2^-53
abbrev pub q : ℕ → ℕ
q m = mantissa_of m / 2 ^ 11

-- ---- S(1/3) against ln2, computed

third-above : floor_s (2 ^ 120) 1 3 ≤ ln2 * 2 ^ 67 + 2 ^ 65
unfolding floor_s s_num s_den sum term odd_product
third-above = leb→le _ _ tt

third-below : ln2 * 2 ^ 67 ≤ floor_s (2 ^ 120) 1 3 + 2 ^ 65
unfolding floor_s s_num s_den sum term odd_product
third-below = leb→le _ _ tt

-- ---- numerators over the common denominator e d, from bounds of x/u for c/e and c/d

turns-above : (u n x c e d y : ℕ) → u * c ≤ x * e → n * x ≤ y → u * (n * (c * d)) ≤ y * (e * d)
turns-above u n x c e d y h k = le_trans {m = n * x * (e * d)} (omega (arith, mul-le-mul_left (n * d) h)) (mul-le-mul_right (e * d) k)

turns-below : (u n x c e d y : ℕ) → x * e ≤ u * c → y ≤ n * x → y * (e * d) ≤ u * (n * (c * d))
turns-below u n x c e d y h k = le_trans {m = n * x * (e * d)} (mul-le-mul_right (e * d) k) (omega (arith, mul-le-mul_left (n * d) h))

part-above : (u x c e d y : ℕ) → u * c ≤ x * d → x ≤ y → u * (c * e) ≤ y * (e * d)
part-above u x c e d y h k = le_trans {m = x * (e * d)} (omega (arith, mul-le-mul_left e h)) (mul-le-mul_right (e * d) k)

part-below : (u x c e d y : ℕ) → x * d ≤ u * c → y ≤ x → y * (e * d) ≤ u * (c * e)
part-below u x c e d y h k = le_trans {m = x * (e * d)} (mul-le-mul_right (e * d) k) (omega (arith, mul-le-mul_left e h))

times_above : (n x a c : ℕ) → x + 1 ≤ a + c → n * (x + 1) ≤ n * a + n * c
times_above n x a c h = omega (arith, mul-le-mul_left n h)

times_below : (n x a c : ℕ) → a ≤ x + c → n * a ≤ n * x + n * c
times_below n x a c h = omega (arith, mul-le-mul_left n h)

less : (y x c d z : ℕ) → y ≤ x + c → x * d ≤ z → y * d ≤ z + c * d
less y x c d z h k = omega (arith, mul-le-mul_right d h)

module _ (n m : ℕ) (lo : 2 ^ 52 ≤ m) (hi : m < 2 ^ 53) where
  all_turns_above : 2 ^ 120 * turns n m ≤ (n * (ln2 * 2 ^ 67) + n * 2 ^ 66) * over m
  all_turns_above =
      turns-above (2 ^ 120) n (floor_s (2 ^ 120) 1 3 + 1) _ _ _ _ (floor_s-above (2 ^ 120) 1 3 (omega arith))
      (times_above n _ (ln2 * 2 ^ 67) (2 ^ 66) (omega (arith, third-above)))

  all_turns_below : n * (ln2 * 2 ^ 67) * over m ≤ 2 ^ 120 * turns n m + n * 2 ^ 66 * over m
  all_turns_below =
      less (n * (ln2 * 2 ^ 67)) (n * floor_s (2 ^ 120) 1 3) (n * 2 ^ 66) _ _
      (times_below n (floor_s (2 ^ 120) 1 3) (ln2 * 2 ^ 67) (2 ^ 66) (omega (arith, third-below)))
      (turns-below (2 ^ 120) n (floor_s (2 ^ 120) 1 3) _ _ _ _ (floor_s-below (2 ^ 120) 1 3) (le_refl (n * floor_s (2 ^ 120) 1 3)))

  m_part_above : 2 ^ 120 * part m ≤ (q m * 2 ^ 67 + 3 * 2 ^ 66) * over m
  m_part_above =
      part-above (2 ^ 120) (floor_s (2 ^ 120) (m - 2 ^ 52) (m + 2 ^ 52) + 1) _ _ _ _
      (floor_s-above (2 ^ 120) (m - 2 ^ 52) (m + 2 ^ 52) (omega arith))
      (omega (arith, mantissa_above m lo hi))

  m_part_below : q m * 2 ^ 67 * over m ≤ 2 ^ 120 * part m + 2 ^ 66 * over m
  m_part_below =
      less (q m * 2 ^ 67) (floor_s (2 ^ 120) (m - 2 ^ 52) (m + 2 ^ 52)) (2 ^ 66) _ _ (omega (arith, mantissa_below m lo hi))
      (part-below (2 ^ 120) (floor_s (2 ^ 120) (m - 2 ^ 52) (m + 2 ^ 52)) _ _ _ _ (floor_s-below (2 ^ 120) (m - 2 ^ 52) (m + 2 ^ 52))
      (le_refl _))

-- ---- the four bounds of the sum, in units of 2^-54: 2^66 taken off both sides

cancel_up_above :
    (b v n l q t p o : ℕ) → zero < b → v * b * t ≤ (n * (l * (2 * b)) + n * b) * o → v * b * p ≤ (q * (2 * b) + 3 * b) * o
    → v * (t + p) ≤ (2 * (n * l + q) + (n + 3)) * o
cancel_up_above b v n l q t p o pb ht hp = le_of_mul-le-mul_left {k = b} (omega arith) pb

cancel_up_below :
    (b v n l q t p o : ℕ) → zero < b → n * (l * (2 * b)) * o ≤ v * b * t + n * b * o → q * (2 * b) * o ≤ v * b * p + b * o
    → 2 * (n * l + q) * o ≤ v * (t + p) + (n + 1) * o
cancel_up_below b v n l q t p o pb ht hp = le_of_mul-le-mul_left {k = b} (omega arith) pb

cancel_down_above :
    (b v n l q t p o : ℕ) → zero < b → v * b * t ≤ (n * (l * (2 * b)) + n * b) * o → q * (2 * b) * o ≤ v * b * p + b * o
    → v * t + 2 * q * o ≤ v * p + (2 * (n * l) + (n + 1)) * o
cancel_down_above b v n l q t p o pb ht hp = le_of_mul-le-mul_left {k = b} (omega arith) pb

cancel_down_below :
    (b v n l q t p o : ℕ) → zero < b → n * (l * (2 * b)) * o ≤ v * b * t + n * b * o → v * b * p ≤ (q * (2 * b) + 3 * b) * o
    → 2 * (n * l) * o + v * p ≤ v * t + (2 * q + (n + 3)) * o
cancel_down_below b v n l q t p o pb ht hp = le_of_mul-le-mul_left {k = b} (omega arith) pb

module _ (n m : ℕ) (lo : 2 ^ 52 ≤ m) (hi : m < 2 ^ 53) where
  pub up_above : 2 ^ 54 * (turns n m + part m) ≤ (2 * (n * ln2 + q m) + (n + 3)) * over m
  up_above = cancel_up_above (2 ^ 66) (2 ^ 54) n ln2 (q m) _ _ _ (omega arith) (all_turns_above n m lo hi) (m_part_above n m lo hi)

  pub up_below : 2 * (n * ln2 + q m) * over m ≤ 2 ^ 54 * (turns n m + part m) + (n + 1) * over m
  up_below = cancel_up_below (2 ^ 66) (2 ^ 54) n ln2 (q m) _ _ _ (omega arith) (all_turns_below n m lo hi) (m_part_below n m lo hi)

  pub down_above : 2 ^ 54 * turns n m + 2 * q m * over m ≤ 2 ^ 54 * part m + (2 * (n * ln2) + (n + 1)) * over m
  down_above = cancel_down_above (2 ^ 66) (2 ^ 54) n ln2 (q m) _ _ _ (omega arith) (all_turns_above n m lo hi) (m_part_below n m lo hi)

  pub down_below : 2 * (n * ln2) * over m + 2 ^ 54 * part m ≤ 2 ^ 54 * turns n m + (2 * q m + (n + 3)) * over m
  down_below = cancel_down_below (2 ^ 66) (2 ^ 54) n ln2 (q m) _ _ _ (omega arith) (all_turns_below n m lo hi) (m_part_above n m lo hi)

-- ---- below 1 the size of the sum is positive

-- the largest mantissa, 2^53 - 1: its part is a whole unit of 2^-53 below S(1/3), but for a fifth
largest : floor_s (2 ^ 120) (2 ^ 52 - 1) (2 ^ 53 - 1 + 2 ^ 52) + 3 * 2 ^ 56 < ln2 * 2 ^ 67
unfolding floor_s s_num s_den sum term odd_product
largest = leb→le _ _ tt

floor_s_grows : (p q r s : ℕ) → 0 < q → 0 < s → p * s ≤ r * q → floor_s (2 ^ 120) p q ≤ floor_s (2 ^ 120) r s
unfolding floor_s
floor_s_grows p q r s pq ps h =
    div_mono (2 ^ 120 * s_num p q) (s_den q) (2 ^ 120 * s_num r s) (s_den s) (s_den-pos q pq) (s_den-pos s ps)
    (le_trans
    (le_of_eq (mul_assoc (2 ^ 120) (s_num p q) (s_den s)))
    (le_trans (mul-le-mul_left (2 ^ 120) (S-grows p q r s pq ps h)) (le_of_eq (sym (mul_assoc (2 ^ 120) (s_num r s) (s_den q))))))

pub one_turn_outweighs : (m : ℕ) → 2 ^ 52 ≤ m → m < 2 ^ 53 → q m < ln2
one_turn_outweighs m lo hi =
    omega (
      arith,
      mantissa_below m lo hi,
      largest,
      floor_s_grows (m - 2 ^ 52) (m + 2 ^ 52) (2 ^ 52 - 1) (2 ^ 53 - 1 + 2 ^ 52) (omega arith) (omega arith) (omega arith),
    )

pub turns_outweigh : (n m : ℕ) → 1 ≤ n → 2 ^ 52 ≤ m → m < 2 ^ 53 → q m < n * ln2
turns_outweigh n m h lo hi = lt_of_lt_of_le (one_turn_outweighs m lo hi) (le_trans (le_of_eq (sym (one-mul ln2))) (mul-le-mul_right ln2 h))
