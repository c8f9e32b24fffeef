-- The rounded sum, left to right from +0, of up to 32 weighed logarithms: near the exact sum, if the weights add up to at most 5/2. Assumes
-- nothing.
use mathlib.Core.Path.{◌≡◌}
use mathlib.Core.Bool.{false}
use Prim.Native.Nat.{ℕ, zero, suc, ◌+◌, ◌*◌, ◌^◌, ◌≤◌, ◌<◌}
use native.Mathlib.Nat.{le_trans, le_of_eq, le_refl, le_step, le-add_right, mul-pos, mul-le-mul_left, mul-le-mul_right}
use native.Mathlib.Nat.{le_of_mul-le-mul_left, le_of_suc-le}
use native.Mathlib.Omega.{arith}
use lib.Dec.{lit≤, lit<}
use lib.Pow.{pow_pos}
use lib.Ieee.{Float}
use Rattle.arith.specs.Turns.{iter}
use Rattle.double.specs.Operators.{◌⊕◌}
use Rattle.double.specs.Numbers.{#0}
use Rattle.series.specs.Series.{Signed}
use Rattle.series.specs.change.SignedArithmetic.{times}
use Rattle.certain.proofs.ExactCoordinates.{in_units}
use Rattle.certain.specs.power.Numbers.{sum}
use Rattle.certain.proofs.power.Terms.{Term, term-size, sum-term}
use Rattle.certain.proofs.power.Weights.{weighed_size, lighter}
use Rattle.certain.proofs.power.Margins.{wide_errors}
use Rattle.certain.proofs.power.Decided.{zero-units}
use Rattle.certain.specs.wide.Sums.{none, weighed_sum, total}
use Rattle.certain.specs.wide.Meaning.{most_exponents}

abbrev U : ℕ
U = 2 ^ 1074

zero-term : Term #0 none 0
zero-term =
    record { sign = false; units = 0; is = zero-units; near = record { ahead = shape (2 ^ 52 * U) U; behind = shape (2 ^ 52 * U) U } }
  where
    shape : (k z : ℕ) → k * (0 * 1 + 0 * z) ≤ k * (0 * z + 0 * 1) + 0 * (1 * z)
    shape k z = omega arith

-- the i-th is W i/U times x i
module _ (p : ℕ → Float) (x : ℕ → Signed) (W : ℕ → ℕ) where
  abbrev pub logs_to : ℕ → Signed
  logs_to n = weighed_sum (λ (i : ℕ). in_units false (W i)) x n

  abbrev pub added_to : ℕ → Float
  added_to n = iter (λ (i : ℕ) (t : Float). t ⊕ p i) #0 n

  pub record At (i : ℕ) : Type 0 where
    pub term : Term (p i) (times (in_units false (W i)) (x i)) (W i * 184320 + 3250 * U)
    pub small : (x i).plus + (x i).less ≤ 719 * (x i).over
    pub over-pos : 0 < (x i).over
    pub most : W i ≤ 2 * U

  pub logs-over : (n : ℕ) → ((i : ℕ) → i < n → At i) → 0 < (logs_to n).over
  unfolding weighed_sum
  logs-over zero h = lit< tt
  logs-over (suc n) h = mul-pos (logs-over n (λ i l. h i (le_step l))) (mul-pos (pow_pos 1074) (h n (le_refl (suc n))).over-pos)

  size_step :
      (S w z P M o p m v : ℕ) → z * (P + M) ≤ S * 719 * o → p + m ≤ 719 * v
      → z * (P * (z * v) + (w * p + 0 * m) * o + (M * (z * v) + (w * m + 0 * p) * o)) ≤ (S + w) * 719 * (o * (z * v))
  size_step S w z P M o p m v h k =
      le_trans (le_of_eq (left z P M v w p m o))
      (le_trans (both (mul-le-mul_right (z * v) h) (mul-le-mul_left (z * w * o) k)) (le_of_eq (right S w o z v)))
    where
      left :
          (z P M v w p m o : ℕ)
          → z * (P * (z * v) + (w * p + 0 * m) * o + (M * (z * v) + (w * m + 0 * p) * o)) ≡ z * (P + M) * (z * v) + z * w * o * (p + m)
      left z P M v w p m o = omega arith

      right : (S w o z v : ℕ) → S * 719 * o * (z * v) + z * w * o * (719 * v) ≡ (S + w) * 719 * (o * (z * v))
      right S w o z v = omega arith

      both : {a b c d : ℕ} → a ≤ b → c ≤ d → a + c ≤ b + d
      both h k = omega arith

  logs-size : (n : ℕ) → ((i : ℕ) → i < n → At i) → U * ((logs_to n).plus + (logs_to n).less) ≤ total W n * 719 * (logs_to n).over
  unfolding weighed_sum total
  logs-size zero h = none-size U
    where
      none-size : (z : ℕ) → z * (0 + 0) ≤ 0 * 719 * 1
      none-size z = omega arith
  logs-size (suc n) h =
      size_step (total W n) (W n) U (logs_to n).plus (logs_to n).less (logs_to n).over (x n).plus (x n).less (x n).over
      (logs-size n (λ i l. h i (le_step l))) (h n (le_refl (suc n))).small

  logs_small :
      (n : ℕ) → ((i : ℕ) → i < n → At i) → total W n ≤ 3 * U → (logs_to n).plus + (logs_to n).less ≤ 2157 * (logs_to n).over
  logs_small n h few =
      le_of_mul-le-mul_left {k = U}
      (le_trans (logs-size n h) (le_trans (mul-le-mul_right (logs_to n).over (mul-le-mul_right 719 few))
      (le_of_eq (regrouped U (logs_to n).over))))
      (pow_pos 1074)
    where
      regrouped : (z o : ℕ) → 3 * z * 719 * o ≡ z * (2157 * o)
      regrouped z o = omega arith

  -- the errors
  error_step : (S w n z : ℕ) → S * 184320 + n * 5049 * z + (w * 184320 + 3250 * z) + 1799 * z ≤ (S + w) * 184320 + suc n * 5049 * z
  error_step S w n z = omega arith

  error_small : (S n z : ℕ) → S ≤ 3 * z → n ≤ most_exponents → S * 184320 + n * 5049 * z ≤ 2 ^ 52 * z
  error_small S n z h k = go S (n * 5049 * z) z h (mul-le-mul_right z (mul-le-mul_right 5049 k))
    where
      go : (S y z : ℕ) → S ≤ 3 * z → y ≤ most_exponents * 5049 * z → S * 184320 + y ≤ 2 ^ 52 * z
      go S y z h k = omega arith

  one_small : (w z : ℕ) → w ≤ 2 * z → w * 184320 + 3250 * z ≤ 2 ^ 52 * z
  one_small w z h = omega arith

  room : (m n z : ℕ) → 2 ^ 60 ≤ z → m ≤ (2157 + 1) * z → n ≤ (1438 + 1) * z → m + n + 2 ^ 52 ≤ 2 * (1799 * z)
  room m n z b h k = omega arith

  fine : (m n z : ℕ) → m ≤ (2157 + 1) * z → n ≤ (1438 + 1) * z → m + n ≤ 3598 * z
  fine m n z h k = omega arith

  step :
      (n : ℕ) → suc n ≤ most_exponents → ((i : ℕ) → i < suc n → At i) → total W n ≤ 3 * U
      → Term (added_to n) (logs_to n) (total W n * 184320 + n * 5049 * U)
      → Term (added_to n ⊕ p n) (sum (logs_to n) (times (in_units false (W n)) (x n))) ((total W n + W n) * 184320 + suc n * 5049 * U)
  step n l h few before =
      lighter _ (error_step (total W n) (W n) n U)
      (sum-term (added_to n) (p n) (logs_to n) (times (in_units false (W n)) (x n)) _ _ 1799 before now
      (room before.units now.units U (lit≤ tt) before_size now_size)
      (le_trans (fine before.units now.units U before_size now_size) (mul-le-mul_right {m = 3598} {n = 2 ^ 1023} U (lit≤ tt))))
    where
      earlier : (i : ℕ) → i < n → At i
      earlier i k = h i (le_step k)

      here : At n
      here = h n (le_refl (suc n))

      now : Term (p n) (times (in_units false (W n)) (x n)) (W n * 184320 + 3250 * U)
      now = here.term

      before_size : before.units ≤ (2157 + 1) * U
      before_size =
          term-size 2157 before (logs-over n earlier) (logs_small n earlier few) (error_small (total W n) n U few (le_of_suc-le l))

      now_size : now.units ≤ (1438 + 1) * U
      now_size =
          term-size 1438 now (mul-pos (pow_pos 1074) here.over-pos) (weighed_size 2 (W n) (x n) here.most here.small)
          (one_small (W n) U here.most)

  pub summed :
      (n : ℕ) → n ≤ most_exponents → ((i : ℕ) → i < n → At i) → total W n ≤ 3 * U
      → Term (added_to n) (logs_to n) (total W n * 184320 + n * 5049 * U)
  unfolding weighed_sum iter total
  summed zero l h few = lighter _ (lit≤ tt) zero-term
  summed (suc n) l h few =
      let fewer : total W n ≤ 3 * U = le_trans (le-add_right (total W n) (W n)) few in
      step n l h fewer (summed n (le_of_suc-le l) (λ i k. h i (le_step k)) fewer)

-- 32 terms, their weights up to 5/2
pub errors_most : (S n z : ℕ) → 2 * S ≤ 5 * z → n ≤ most_exponents → S * 184320 + n * 5049 * z ≤ wide_errors * z
errors_most S n z h k = go S (n * 5049 * z) z h (mul-le-mul_right z (mul-le-mul_right 5049 k))
  where
    go : (S y z : ℕ) → 2 * S ≤ 5 * z → y ≤ most_exponents * 5049 * z → S * 184320 + y ≤ wide_errors * z
    go S y z h k = omega arith
