-- The power cone itself: a residue beyond its margin tells the sign of 2α·L(s1) + 2(1-α)·L(s2) - L(s3²). Assumes nothing.
use mathlib.Core.Path.{◌≡◌}
use mathlib.Core.Bool.{false}
use Prim.Native.Nat.{ℕ, ◌+◌, ◌*◌, ◌^◌, ◌≤◌, ◌<◌}
use native.Mathlib.Nat.{le_trans, le_of_lt, mul-pos, mul-le-mul_left, mul-le-mul_right, add-sub_of_le}
use native.Mathlib.Omega.{arith}
use lib.Dec.{T, lit≤}
use lib.Pow.{pow_pos}
use lib.Ieee.{Float, binary64, neg}
use lib.Ieee.Fits.{add-fits}
use lib.Ieee.Positive.{num, den, den_pos}
use Rattle.double.specs.Operators.{◌⊖◌, ◌⊗◌, ◌≺◌}
use Rattle.double.specs.Numbers.{#0, #1, #2}
use Rattle.series.specs.Series.{Signed, Same, lOf}
use Rattle.series.proofs.SignedFractions.{over_pos_of}
use Rattle.series.specs.change.SignedArithmetic.{times, minus, BelowZero}
use Rattle.series.proofs.change.SignedArithmetic.{same_times, same_minus, above_moves, below_moves}
use Rattle.logarithm.specs.Steps.{log_of}
use Rattle.powcone.specs.Feasible.{primal_exponent}
use Rattle.certain.specs.Coordinates.{Point, exact_of}
use Rattle.certain.proofs.ExactCoordinates.{in_units, units_exact, exact_over, num_pos_of}
use Rattle.certain.proofs.Coordinates.{Coordinate, coordinate, Nonzero, positive}
use Rattle.certain.specs.power.Numbers.{sum, one}
use Rattle.certain.specs.power.Primal as primal
use Rattle.certain.specs.power.Meaning.{Exponent}
use Rattle.certain.proofs.power.Terms.{Term, term-size, sum-term}
use Rattle.certain.proofs.power.Weights.{weighed, weighed_size}
use Rattle.certain.proofs.power.Coordinates.{LogOf, own_log, square}
use Rattle.certain.proofs.power.ExactNumbers.{same_sum, same_twice, same_less, one_exact, square_exact, units-above, units-some}
use Rattle.certain.proofs.power.ExactNumbers.{root_some}
use Rattle.certain.proofs.power.Exponents.{in_units_lem, A, B, rest-most, first-weight, second-weight}
use Rattle.certain.proofs.power.Margins.{Counted, power_errors}
use Rattle.certain.proofs.power.Decided.{Squared, decided_yes, decided_no}

abbrev U : ℕ
U = 2 ^ 1074

-- the errors of two weighed logarithms and of their sum
errors_most : (a b z : ℕ) → a + b ≡ z → 2 * a * 184320 + 3250 * z + (2 * b * 184320 + 3250 * z) + 1440 * z ≤ power_errors * z
errors_most a b z e = omega arith

pub one_error : (a z : ℕ) → a ≤ z → 2 * a * 184320 + 3250 * z ≤ 2 ^ 52 * z
one_error a z h = omega arith

pub room_for : (m n z : ℕ) → 2 ^ 60 ≤ z → m ≤ (1438 + 1) * z → n ≤ (1438 + 1) * z → m + n + 2 ^ 52 ≤ 2 * (1440 * z)
room_for m n z b h k = omega arith

pub fits_for : (m n z : ℕ) → m ≤ (1438 + 1) * z → n ≤ (1438 + 1) * z → m + n ≤ 2878 * z
fits_for m n z h k = omega arith

module _ (α s1 s2 s3 : Float) (x : Exponent α) (p : Point s1 s2 s3) (t1 : T (#0 ≺ s1)) (t2 : T (#0 ≺ s2)) where
  c1 : Nonzero false s1
  c1 = positive s1 p.first_double p.first t1

  c2 : Nonzero false s2
  c2 = positive s2 p.second_double p.second t2

  c3 : Coordinate s3
  c3 = coordinate s3 p.third_double p.third

  abbrev a : ℕ
  a = c1.units

  abbrev b : ℕ
  b = c2.units

  abbrev w : ℕ
  w = c3.units

  log1 : LogOf (log_of s1) (lOf a U)
  log1 = own_log s1 a p.first_double c1.is c1.some c1.most c1.least

  log2 : LogOf (log_of s2) (lOf b U)
  log2 = own_log s2 b p.second_double c2.is c2.some c2.most c2.least

  abbrev W1 : ℕ
  W1 = 2 * A α x

  abbrev W2 : ℕ
  W2 = 2 * B α x

  most1 : W1 ≤ 2 * U
  most1 = mul-le-mul_left 2 (le_of_lt (in_units_lem α x).less)

  most2 : W2 ≤ 2 * U
  most2 = mul-le-mul_left 2 (rest-most α x)

  term1 : Term (#2 ⊗ α ⊗ log_of s1) (times (in_units false W1) (lOf a U)) (W1 * 184320 + 3250 * U)
  term1 = weighed (first-weight α x) most1 log1.log log1.over-pos log1.small

  term2 : Term (#2 ⊗ (#1 ⊖ α) ⊗ log_of s2) (times (in_units false W2) (lOf b U)) (W2 * 184320 + 3250 * U)
  term2 = weighed (second-weight α x) most2 log2.log log2.over-pos log2.small

  size1 : term1.units ≤ (1438 + 1) * U
  size1 =
      term-size 1438 term1 (mul-pos (pow_pos 1074) log1.over-pos) (weighed_size 2 W1 (lOf a U) most1 log1.small)
      (one_error (A α x) U (le_of_lt (in_units_lem α x).less))

  size2 : term2.units ≤ (1438 + 1) * U
  size2 =
      term-size 1438 term2 (mul-pos (pow_pos 1074) log2.over-pos) (weighed_size 2 W2 (lOf b U) most2 log2.small)
      (one_error (B α x) U (rest-most α x))

  -- 2α·L(s1) + 2(1-α)·L(s2), in units
  abbrev logs : Signed
  logs = sum (times (in_units false W1) (lOf a U)) (times (in_units false W2) (lOf b U))

  abbrev E : ℕ
  E = W1 * 184320 + 3250 * U + (W2 * 184320 + 3250 * U) + 1440 * U

  abbrev y : Float
  y = primal_exponent α s1 s2

  exponent : Term y logs E
  exponent =
      sum-term (#2 ⊗ α ⊗ log_of s1) (#2 ⊗ (#1 ⊖ α) ⊗ log_of s2) _ _ (W1 * 184320 + 3250 * U) (W2 * 184320 + 3250 * U) 1440 term1 term2
      (room_for term1.units term2.units U (lit≤ tt) size1 size2)
      (le_trans (fits_for term1.units term2.units U size1 size2) (mul-le-mul_right {m = 2878} {n = 2 ^ 1023} U (lit≤ tt)))

  E-most : E ≤ power_errors * U
  E-most = errors_most (A α x) (B α x) U (add-sub_of_le (le_of_lt (in_units_lem α x).less))

  logs-over : 0 < logs.over
  logs-over = mul-pos (mul-pos (pow_pos 1074) log1.over-pos) (mul-pos (pow_pos 1074) log2.over-pos)

  -- by the coordinates
  α-same : Same (in_units false (A α x)) (exact_of α)
  α-same = units_exact α false (A α x) (in_units_lem α x).is

  rest_over : 0 < (minus one (exact_of α)).over
  rest_over = mul-pos {m = 1} (pow_pos 0) (exact_over α)

  same_logs : Same logs (primal.logs α s1 s2)
  same_logs =
      same_sum
      (same_times (mul-pos {m = 1} (pow_pos 0) (exact_over α)) log1.over-pos (same_twice (A α x) (exact_of α) (exact_over α) α-same)
      (one_exact s1 false a c1.some c1.is))
      (same_times (mul-pos {m = 1} (pow_pos 0) rest_over) log2.over-pos
      (same_twice (B α x) (minus one (exact_of α)) rest_over
      (same_less (A α x) (exact_of α) (exact_over α) (le_of_lt (in_units_lem α x).less) α-same))
      (one_exact s2 false b c2.some c2.is))

  logs_exact : 0 < (primal.logs α s1 s2).over
  logs_exact =
      mul-pos (mul-pos (mul-pos {m = 1} (pow_pos 0) (exact_over α)) (over_pos_of (num s1) (den s1) (den_pos s1)))
      (mul-pos (mul-pos {m = 1} (pow_pos 0) rest_over) (over_pos_of (num s2) (den s2) (den_pos s2)))

  q : Squared (s3 ⊗ s3) (w * w)
  q = square s3 c3

  number-over : 0 < (primal.number α s1 s2 s3).over
  unfolding primal.number
  number-over = mul-pos logs_exact (over_pos_of (num s3 * num s3) (den s3 * den s3) (mul-pos (den_pos s3) (den_pos s3)))

  same : 0 < w → Same (minus logs (lOf (w * w) (U * U))) (primal.number α s1 s2 s3)
  unfolding primal.number
  same pw =
      same_minus logs_exact (over_pos_of (w * w) (U * U) (mul-pos (pow_pos 1074) (pow_pos 1074))) same_logs
      (square_exact s3 c3.sign w pw c3.is)

  pub inside :
      (part : Float) (F : Counted power_errors part) → T (primal.margin part α s1 s2 s3 ≺ primal.residue α s1 s2 s3)
      → primal.Inside α s1 s2 s3
  inside part F test = record {
    first_above = units-above s1 a c1.some c1.is;
    second_above = units-above s2 b c2.some c2.is;
    number-above = λ n.
        let pw : 0 < w = units-some s3 c3.sign w c3.is n in
        above_moves number-over (same pw)
        (decided_yes part F y logs E (add-fits binary64 _ _) logs-over exponent E-most (s3 ⊗ s3) (w * w) q (mul-pos pw pw) test);
  }

  pub outside :
      (part : Float) (F : Counted power_errors part) → T (primal.residue α s1 s2 s3 ≺ neg (primal.margin part α s1 s2 s3))
      → (0 < num s3) × BelowZero (primal.number α s1 s2 s3)
  outside part F test =
      let d = decided_no part F y logs E (add-fits binary64 _ _) logs-over exponent E-most (s3 ⊗ s3) (w * w) q test in
      let pw : 0 < w = root_some w d.0 in
      (num_pos_of s3 c3.sign w pw c3.is, below_moves number-over (same pw) d.1)
