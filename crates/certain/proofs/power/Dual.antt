-- The power cone's dual: a residue beyond its margin tells the sign of 2α·L(z1/α) + 2(1-α)·L(z2/(1-α)) - L(z3²). Assumes nothing.
-- Where z1/α overflows, so does the exponential, and nothing is told.
use mathlib.Core.Path.{◌≡◌, refl, sym, ap, ap₂, ◌∙◌, subst}
use mathlib.Core.Bool.{Bool, false}
use mathlib.Core.Logic.{◌⊎◌, inl, inr}
use Prim.Native.Nat.{ℕ, ◌+◌, ◌-◌, ◌*◌, ◌^◌, ◌≤◌, ◌<◌}
use native.Mathlib.Nat.{le_trans, le_of_eq, le_of_lt, mul-pos, mul-le-mul_left, mul-le-mul_right, add-sub_of_le, lt_of_lt_of_le, mul_comm}
use native.Mathlib.Nat.{mul-sub}
use native.Mathlib.Nat.{add-le-add, le_refl, le_dest, lt_of_not-le}
use native.Mathlib.Decide.{dec_le}
use native.Mathlib.Nat.{eq_of_mul-eq-mul_right, le_of_mul-le-mul_left, lt_of_mul-lt-mul_right, zero-mul, sub-pos_iff_lt}
use native.Mathlib.Omega.{arith}
use lib.Dec.{T, lit≤, lit<}
use lib.Pow.{pow_pos}
use lib.Ieee.{Float, inf, binary64, neg}
use lib.Ieee.Fits.{add-fits, div-fits}
use lib.Ieee.Positive.{num, den, den_pos}
use Rattle.double.specs.Operators.{◌⊕◌, ◌⊖◌, ◌⊗◌, ◌⊘◌, ◌≺◌}
use Rattle.double.specs.Numbers.{#0, #1, #2}
use Rattle.double.specs.Fields.{Sized, Units}
use Rattle.rounding.specs.Within.{Within}
use Rattle.series.specs.Series.{Signed, Same, lOf}
use Rattle.series.proofs.SignedFractions.{over_pos_of}
use Rattle.series.proofs.SameFraction.{L-of_equal}
use Rattle.series.specs.change.Distances.{Apart}
use Rattle.series.specs.change.SignedArithmetic.{times, minus, AboveZero, BelowZero}
use Rattle.series.proofs.change.SignedArithmetic.{same_times, same_minus, above_moves, below_moves}
use Rattle.series.proofs.change.RelativeChange.{L-relative}
use Rattle.logarithm.specs.Steps.{log_of}
use Rattle.logarithm.proofs.Promise as logarithm
use Rattle.exponential.specs.Steps.{exp_of}
use Rattle.cone.specs.verdict.Margins.{margin_of}
use Rattle.powcone.specs.Feasible.{dual_exponent}
use Rattle.certain.specs.Coordinates.{largest, Point, exact_of}
use Rattle.certain.proofs.ExactCoordinates.{in_units, units_exact, exact_over, num_pos_of, cross_of_lem, quotient_exact, quotient-over}
use Rattle.certain.proofs.Coordinates.{Coordinate, coordinate, Nonzero, positive}
use Rattle.certain.specs.power.Numbers.{sum, one}
use Rattle.certain.specs.power.Dual as dual
use Rattle.certain.specs.power.Meaning.{Exponent}
use Rattle.certain.proofs.power.Distances.{Near, finer, near_moves}
use Rattle.certain.proofs.power.Terms.{Term, term-size, sum-term}
use Rattle.certain.proofs.power.Weights.{weighed, weighed_size, term_doubled}
use Rattle.certain.proofs.power.Coordinates.{LogOf, square}
use Rattle.certain.proofs.power.Quotients.{InRange, quotient_cases, not_infinite, quotient-log}
use Rattle.certain.proofs.power.ExactNumbers.{same_sum, same_twice, same_less, square_exact, units-above, units-some, root_some}
use Rattle.certain.proofs.power.Exponents.{in_units_lem, A, B, rest, rest-least, rest-most, first-dual, first_positive, rest-weight}
use Rattle.certain.proofs.power.Primal.{one_error, room_for, fits_for}
use Rattle.certain.proofs.power.Margins.{Counted, power_errors}
use Rattle.certain.proofs.power.Infinities.{mul_infinity, infinite_and_finite, exp_infinity}
use Rattle.certain.proofs.power.Decided.{Squared, decided_yes, decided_no, untold_above, untold_below}

abbrev U : ℕ
U = 2 ^ 1074

-- ---- L(z/(1-α)) with the rounded and with the exact 1-α

pub rest_large : (b n : ℕ) → 2 ^ 60 ≤ n → n * 2 ^ 53 ≤ b * 2 ^ 53 + (n + 2 ^ 52) → n + 2 ^ 52 ≤ 2 * b
rest_large b n big h = go (dec_le n b)
  where
    go : Dec (n ≤ b) → n + 2 ^ 52 ≤ 2 * b
    go (yes l) = one b n big l
      where
        one : (b n : ℕ) → 2 ^ 60 ≤ n → n ≤ b → n + 2 ^ 52 ≤ 2 * b
        one b n h l = omega arith
    go (no l) = over (le_dest (le_of_lt (lt_of_not-le l)))
      where
        few : (b n d : ℕ) → (b + d) * 2 ^ 53 ≤ b * 2 ^ 53 + (n + 2 ^ 52) → d * 2 ^ 53 ≤ n + 2 ^ 52
        few b n d h = omega arith

        less : (n d : ℕ) → 2 ^ 60 ≤ n → d * 2 ^ 53 ≤ n + 2 ^ 52 → d * 2 ^ 53 ≤ 2 * n
        less n d l h = omega arith

        quarter : (n d : ℕ) → d * 2 ^ 53 ≤ 2 * n → 4 * d ≤ n
        quarter n d h = omega arith

        last : (b n d : ℕ) → 2 ^ 60 ≤ n → b + d ≡ n → 4 * d ≤ n → n + 2 ^ 52 ≤ 2 * b
        last b n d l e h = omega arith

        over : (d : ℕ) × (b + d ≡ n) → n + 2 ^ 52 ≤ 2 * b
        over (d, e) =
            last b n d big e
            (quarter n d (less n d big (few b n d (subst (λ (t : ℕ). t * 2 ^ 53 ≤ b * 2 ^ 53 + (n + 2 ^ 52)) (sym e) h))))

halved : (x y z : ℕ) → x * 2 ^ 53 ≤ y * 2 ^ 53 + 2 * z → x * 2 ^ 52 ≤ y * 2 ^ 52 + z
halved x y z h = omega arith

rest_below : (b n : ℕ) → n * 2 ^ 53 ≤ b * 2 ^ 53 + (n + 2 ^ 52) → n + 2 ^ 52 ≤ 2 * b → n * 2 ^ 52 ≤ b * 2 ^ 52 + b
rest_below b n h l = halved n b b (le_trans h (add-le-add (le_refl (b * 2 ^ 53)) l))

rest-above : (b n : ℕ) → b * 2 ^ 53 ≤ n * 2 ^ 53 + (n + 2 ^ 52) → n + 2 ^ 52 ≤ 2 * b → b * 2 ^ 52 ≤ n * 2 ^ 52 + b
rest-above b n h l = halved b n b (le_trans h (add-le-add (le_refl (n * 2 ^ 53)) l))

rest_shape :
    (b n : ℕ) → 2 ^ 60 ≤ n → Within (b * 2 ^ 53) (n * 2 ^ 53) (n + 2 ^ 52) → (n * 2 ^ 52 ≤ b * 2 ^ 52 + b) × (b * 2 ^ 52 ≤ n * 2 ^ 52 + b)
rest_shape b n big w =
    let l = rest_large b n big w.not-below in
    (rest_below b n w.not-below l, rest-above b n w.not-above l)

rest-moved :
    (a n b : ℕ) → 0 < a → 0 < n → 0 < b → n * 2 ^ 52 ≤ b * 2 ^ 52 + b → b * 2 ^ 52 ≤ n * 2 ^ 52 + b → Near (2 ^ 52) 2 (lOf a n) (lOf a b)
rest-moved a n b pa pn pb lo hi =
    near_moves (over_pos_of (a * b) (n * b) nb) (over_pos_of (a * n) (n * b) nb)
    (L-of_equal (a * b) (n * b) a n ab nb pa pn (first a b n))
    (L-of_equal (a * n) (n * b) a b an nb pa pb (second a n b))
    (finer 2 (record { ahead = p.ahead; behind = p.behind }))
  where
    nb : 0 < n * b
    nb = mul-pos pn pb

    ab : 0 < a * b
    ab = mul-pos pa pb

    an : 0 < a * n
    an = mul-pos pa pn

    first : (a b n : ℕ) → a * b * n ≡ a * (n * b)
    first a b n = omega arith

    second : (a n b : ℕ) → a * n * b ≡ a * (n * b)
    second a n b = omega arith

    p : Apart (2 ^ 51) (lOf (a * b) (n * b)) (lOf (a * n) (n * b))
    p = L-relative (a * b) (a * n) (n * b) (2 ^ 51) ab an nb (pow_pos 51) (up_to (mul-le-mul_left a lo)) (down_to (mul-le-mul_left a hi))
      where
        up_to : a * (n * 2 ^ 52) ≤ a * (b * 2 ^ 52 + b) → a * n * (2 * 2 ^ 51) ≤ a * b * (2 * 2 ^ 51) + a * b
        up_to h = omega arith

        down_to : a * (b * 2 ^ 52) ≤ a * (n * 2 ^ 52 + b) → a * b * (2 * 2 ^ 51) ≤ a * n * (2 * 2 ^ 51) + a * b
        down_to h = omega arith

-- L(z/(1-α)), by units
rest_exact :
    (z α : Float) (s : Bool) (a n : ℕ) → 0 < a → n < U → Sized z s a → Units α n
    → (0 < den α - num α) × Same (lOf a (U - n)) (dual.l_of_rest z α)
rest_exact z α s a n pa l h k = (
  pd,
  L-of_equal a (U - n) (num z * den α) (den z * (den α - num α)) pa (sub-pos_iff_lt.1 l)
      (mul-pos (num_pos_of z s a pa h) (den_pos α)) (mul-pos (den_pos z) pd)
      (eq_of_mul-eq-mul_right U (pow_pos 1074) _ _ (crossed (num z) (den z) (den α) (den α - num α) U (U - n) a
      (cross_of_lem z s a h) difference)),
)
  where
    difference : (den α - num α) * U ≡ (U - n) * den α
    difference =
        mul_comm (den α - num α) U ∙ mul-sub U (den α) (num α)
        ∙ ap₂ ◌-◌ (mul_comm U (den α)) (mul_comm U (num α) ∙ cross_of_lem α false n k ∙ mul_comm n (den α))
        ∙ sym (mul-sub (den α) U n) ∙ mul_comm (den α) (U - n)

    pd : 0 < den α - num α
    pd = lt_of_mul-lt-mul_right U (subst (λ (t : ℕ). 0 * U < t) (sym difference) (zero-below (mul-pos (sub-pos_iff_lt.1 l) (den_pos α))))
      where
        zero-below : {x : ℕ} → 0 < x → 0 * U < x
        zero-below {x} p = subst (λ (t : ℕ). t < x) (sym (zero-mul U)) p

    crossed : (N D E d z b a : ℕ) → N * z ≡ a * D → d * z ≡ b * E → a * (D * d) * z ≡ N * E * b * z
    crossed N D E d z b a e f =
        one a D d z ∙ ap (λ (t : ℕ). a * D * t) f ∙ two a D b E ∙ ap (λ (t : ℕ). t * (b * E)) (sym e) ∙ three N z b E
      where
        one : (a D d z : ℕ) → a * (D * d) * z ≡ a * D * (d * z)
        one a D d z = omega arith

        two : (a D b E : ℕ) → a * D * (b * E) ≡ a * D * (b * E)
        two a D b E = refl

        three : (N z b E : ℕ) → N * z * (b * E) ≡ N * E * b * z
        three N z b E = omega arith

-- ---- the test

errors_most : (a b z : ℕ) → a + b ≡ z → 2 * a * 184320 + 3250 * z + (2 * (b * 184320 + 3250 * z) + 1088 * z) + 1440 * z ≤ power_errors * z
errors_most a b z e = omega arith

half_error : (a z : ℕ) → a ≤ z → a * 184320 + 3250 * z ≤ 2 ^ 52 * z
half_error a z h = omega arith

twice_error : (a z : ℕ) → a ≤ z → 2 * (a * 184320 + 3250 * z) + 1088 * z ≤ 2 ^ 52 * z
twice_error a z h = omega arith

pub large_of : (a m z H : ℕ) → m ≤ 2 * z → H * 2 * largest ≤ z → z ≤ largest * a → H * m ≤ a * z
large_of a m z H l r h =
    le_trans (mul-le-mul_left H l)
    (le_trans (le_of_eq (go H z))
    (mul-le-mul_right z (le_of_mul-le-mul_left {k = largest} (le_trans (le_of_eq (mul_comm largest (H * 2))) (le_trans r h)) (lit< tt))))
  where
    go : (H z : ℕ) → H * (2 * z) ≡ H * 2 * z
    go H z = omega arith

pub itself : (x : Signed) → Near (2 ^ 52) 2 x x
itself x = record { ahead = shape x.plus x.less x.over; behind = shape x.plus x.less x.over }
  where
    shape : (p l o : ℕ) → 2 ^ 52 * (p * o + l * o) ≤ 2 ^ 52 * (p * o + l * o) + 2 * (o * o)
    shape p l o = omega arith

module _ (α z1 z2 z3 : Float) (x : Exponent α) (p : Point z1 z2 z3) (t1 : T (#0 ≺ z1)) (t2 : T (#0 ≺ z2)) where
  c1 : Nonzero false z1
  c1 = positive z1 p.first_double p.first t1

  c2 : Nonzero false z2
  c2 = positive z2 p.second_double p.second t2

  c3 : Coordinate z3
  c3 = coordinate z3 p.third_double p.third

  abbrev a : ℕ
  a = c1.units

  abbrev b : ℕ
  b = c2.units

  abbrev w : ℕ
  w = c3.units

  abbrev M : ℕ
  M = A α x

  abbrev N : ℕ
  N = B α x

  M-most : M ≤ U
  M-most = le_of_lt (in_units_lem α x).less

  N-pos : 0 < N
  N-pos = lt_of_lt_of_le (lit< tt) (rest-least α x)

  -- the rounded 1-α
  abbrev R : ℕ
  R = (rest α x).units

  R-near : (N * 2 ^ 52 ≤ R * 2 ^ 52 + R) × (R * 2 ^ 52 ≤ N * 2 ^ 52 + R)
  R-near = rest_shape R N (le_trans (lit≤ tt) (rest-least α x)) (rest α x).near

  R-sides : (0 < R) × (N ≤ 2 * R) × (R ≤ 2 * N) × (R ≤ 2 * U)
  R-sides = sides R N U N-pos (rest-most α x) R-near.0 R-near.1
    where
      sides :
          (r n z : ℕ) → 0 < n → n ≤ z → n * 2 ^ 52 ≤ r * 2 ^ 52 + r → r * 2 ^ 52 ≤ n * 2 ^ 52 + r
          → (0 < r) × (n ≤ 2 * r) × (r ≤ 2 * n) × (r ≤ 2 * z)
      sides r n z p l h k = (omega arith, omega arith, omega arith, omega arith)

  -- both quotients are normal numbers, or infinite
  a_large : 2 ^ 52 * M ≤ a * U
  a_large = large_of a M U (2 ^ 52) (le_trans M-most (lit≤ tt)) (lit≤ tt) c1.least

  b_large : 2 ^ 52 * R ≤ b * U
  b_large = large_of b R U (2 ^ 52) R-sides.3 (lit≤ tt) c2.least

  b-most : b ≤ 2 ^ 1023 * R
  b-most =
      le_trans c2.most
      (le_trans (lit≤ tt) (mul-le-mul_left (2 ^ 1023) (half_of (2 ^ 1020) R N R-sides.1 (rest-least α x))))
    where
      half_of : (h r n : ℕ) → n ≤ 2 * r → 2 * h ≤ n → h ≤ r
      half_of h r n l k = omega arith

  log2 : LogOf (log_of (z2 ⊘ (#1 ⊖ α))) (lOf b N)
  log2 =
      quotient-log (z2 ⊘ (#1 ⊖ α)) b R N largest (div-fits binary64 z2 (#1 ⊖ α)) c2.some R-sides.0 N-pos R-sides.3
      c2.least
      (lit≤ tt) R-sides.1 R-sides.2
      (not_infinite z2 (#1 ⊖ α) b R R-sides.0 c2.is (rest α x).is b_large b-most)
      (rest-moved b N R c2.some N-pos R-sides.0 R-near.0 R-near.1)

  half2 : Term ((#1 ⊖ α) ⊗ log_of (z2 ⊘ (#1 ⊖ α))) (times (in_units false N) (lOf b N)) (N * 184320 + 3250 * U)
  half2 = weighed (rest-weight α x) (le_trans (rest-most α x) (lit≤ tt)) log2.log log2.over-pos log2.small

  half2_size : half2.units ≤ 725 * U
  half2_size =
      le_trans
      (term-size 719 half2 (mul-pos (pow_pos 1074) log2.over-pos)
      (weighed_size 1 N (lOf b N) (le_trans (rest-most α x) (lit≤ tt)) log2.small) (half_error N U (rest-most α x)))
      (lit≤ tt)

  term2 : Term ((#1 ⊖ α) ⊗ log_of (z2 ⊘ (#1 ⊖ α)) ⊗ #2) (times (in_units false (2 * N)) (lOf b N)) (2 * (N * 184320 + 3250 * U) + 1088 * U)
  term2 = term_doubled N (lOf b N) half2 half2_size log2.over-pos

  size2 : term2.units ≤ (1438 + 1) * U
  size2 =
      term-size 1438 term2 (mul-pos (pow_pos 1074) log2.over-pos)
      (weighed_size 2 (2 * N) (lOf b N) (mul-le-mul_left 2 (rest-most α x)) log2.small) (twice_error N U (rest-most α x))

  -- by the coordinates
  α-same : Same (in_units false M) (exact_of α)
  α-same = units_exact α false M (in_units_lem α x).is

  rest_over : 0 < (minus one (exact_of α)).over
  rest_over = mul-pos {m = 1} (pow_pos 0) (exact_over α)

  rest_same : (0 < den α - num α) × Same (lOf b N) (dual.l_of_rest z2 α)
  rest_same = rest_exact z2 α false b M c2.some (in_units_lem α x).less c2.is (in_units_lem α x).is

  abbrev logs : Signed
  logs = sum (times (in_units false (2 * M)) (lOf a M)) (times (in_units false (2 * N)) (lOf b N))

  same_logs : Same logs (dual.logs α z1 z2)
  same_logs =
      same_sum
      (same_times (mul-pos {m = 1} (pow_pos 0) (exact_over α)) (over_pos_of a M (in_units_lem α x).some)
      (same_twice M (exact_of α) (exact_over α) α-same)
      (quotient_exact z1 α false false a M c1.some (in_units_lem α x).some c1.is (in_units_lem α x).is))
      (same_times (mul-pos {m = 1} (pow_pos 0) rest_over) log2.over-pos
      (same_twice N (minus one (exact_of α)) rest_over (same_less M (exact_of α) (exact_over α) M-most α-same))
      rest_same.1)

  logs_exact : 0 < (dual.logs α z1 z2).over
  logs_exact =
      mul-pos (mul-pos (mul-pos {m = 1} (pow_pos 0) (exact_over α)) (quotient-over z1 α false M (in_units_lem α x).some (in_units_lem α x).is))
      (mul-pos (mul-pos {m = 1} (pow_pos 0) rest_over)
      (over_pos_of (num z2 * den α) (den z2 * (den α - num α)) (mul-pos (den_pos z2) rest_same.0)))

  logs-over : 0 < logs.over
  logs-over = mul-pos (mul-pos (pow_pos 1074) (over_pos_of a M (in_units_lem α x).some)) (mul-pos (pow_pos 1074) log2.over-pos)

  q : Squared (z3 ⊗ z3) (w * w)
  q = square z3 c3

  number-over : 0 < (dual.number α z1 z2 z3).over
  unfolding dual.number
  number-over = mul-pos logs_exact (over_pos_of (num z3 * num z3) (den z3 * den z3) (mul-pos (den_pos z3) (den_pos z3)))

  same : 0 < w → Same (minus logs (lOf (w * w) (U * U))) (dual.number α z1 z2 z3)
  unfolding dual.number
  same pw =
      same_minus logs_exact (over_pos_of (w * w) (U * U) (mul-pos (pow_pos 1074) (pow_pos 1074))) same_logs
      (square_exact z3 c3.sign w pw c3.is)

  abbrev y : Float
  y = dual_exponent α z1 z2

  abbrev E : ℕ
  E = 2 * M * 184320 + 3250 * U + (2 * (N * 184320 + 3250 * U) + 1088 * U) + 1440 * U

  E-most : E ≤ power_errors * U
  E-most = errors_most M N U (add-sub_of_le M-most)

  -- z1/α is in range
  module _ (r : InRange (z1 ⊘ α) a M) where
    log1 : LogOf (log_of (z1 ⊘ α)) (lOf a M)
    log1 =
        quotient-log (z1 ⊘ α) a M M largest (div-fits binary64 z1 α) c1.some (in_units_lem α x).some (in_units_lem α x).some
        (le_trans M-most (lit≤ tt)) c1.least (lit≤ tt) (twice-itself M) (twice-itself M) r (itself (lOf a M))
      where
        twice-itself : (m : ℕ) → m ≤ 2 * m
        twice-itself m = omega arith

    term1 : Term (α ⊗ #2 ⊗ log_of (z1 ⊘ α)) (times (in_units false (2 * M)) (lOf a M)) (2 * M * 184320 + 3250 * U)
    term1 = weighed (first-dual α x) (mul-le-mul_left 2 M-most) log1.log log1.over-pos log1.small

    size1 : term1.units ≤ (1438 + 1) * U
    size1 =
        term-size 1438 term1 (mul-pos (pow_pos 1074) log1.over-pos)
        (weighed_size 2 (2 * M) (lOf a M) (mul-le-mul_left 2 M-most) log1.small) (one_error M U M-most)

    exponent : Term y logs E
    exponent =
        sum-term (α ⊗ #2 ⊗ log_of (z1 ⊘ α)) ((#1 ⊖ α) ⊗ log_of (z2 ⊘ (#1 ⊖ α)) ⊗ #2) _ _ (2 * M * 184320 + 3250 * U)
        (2 * (N * 184320 + 3250 * U) + 1088 * U) 1440 term1 term2
        (room_for term1.units term2.units U (lit≤ tt) size1 size2)
        (le_trans (fits_for term1.units term2.units U size1 size2) (mul-le-mul_right {m = 2878} {n = 2 ^ 1023} U (lit≤ tt)))

  -- z1/α overflows
  infinite : (z1 ⊘ α) ≡ inf false → exp_of y ≡ inf false
  infinite e =
      ap (λ (l : Float). exp_of (α ⊗ #2 ⊗ log_of l ⊕ (#1 ⊖ α) ⊗ log_of (z2 ⊘ (#1 ⊖ α)) ⊗ #2)) e
      ∙ ap (λ (l : Float). exp_of (α ⊗ #2 ⊗ l ⊕ (#1 ⊖ α) ⊗ log_of (z2 ⊘ (#1 ⊖ α)) ⊗ #2)) (logarithm.promise).of_infinity
      ∙ ap (λ (l : Float). exp_of (l ⊕ (#1 ⊖ α) ⊗ log_of (z2 ⊘ (#1 ⊖ α)) ⊗ #2))
      (mul_infinity (α ⊗ #2) (first_positive α x).units (first_positive α x).some (first_positive α x).is)
      ∙ ap exp_of (infinite_and_finite ((#1 ⊖ α) ⊗ log_of (z2 ⊘ (#1 ⊖ α)) ⊗ #2) term2.sign term2.units term2.is) ∙ exp_infinity

  cases : ((z1 ⊘ α) ≡ inf false) ⊎ InRange (z1 ⊘ α) a M
  cases = quotient_cases z1 α a M (in_units_lem α x).some c1.is (in_units_lem α x).is a_large

  above :
      (part : Float) (F : Counted power_errors part) → 0 < w → T (dual.margin part α z1 z2 z3 ≺ dual.residue α z1 z2 z3)
      → AboveZero (minus logs (lOf (w * w) (U * U)))
  above part F pw test = go cases
    where
      go : ((z1 ⊘ α) ≡ inf false) ⊎ InRange (z1 ⊘ α) a M → AboveZero (minus logs (lOf (w * w) (U * U)))
      go (inl e) =
          absurd (untold_above part F (z3 ⊗ z3) q.units q.is (subst (λ (f : Float). T (margin_of part f (z3 ⊗ z3) ≺ (f ⊖ z3 ⊗ z3)))
          (infinite e) test))
      go (inr r) =
          decided_yes part F y logs E (add-fits binary64 _ _) logs-over (exponent r) E-most (z3 ⊗ z3) (w * w) q (mul-pos pw pw) test

  below :
      (part : Float) (F : Counted power_errors part) → T (dual.residue α z1 z2 z3 ≺ neg (dual.margin part α z1 z2 z3))
      → (0 < w * w) × BelowZero (minus logs (lOf (w * w) (U * U)))
  below part F test = go cases
    where
      go : ((z1 ⊘ α) ≡ inf false) ⊎ InRange (z1 ⊘ α) a M → (0 < w * w) × BelowZero (minus logs (lOf (w * w) (U * U)))
      go (inl e) =
          absurd (untold_below part F (z3 ⊗ z3) q.units q.is
          (subst (λ (f : Float). T ((f ⊖ z3 ⊗ z3) ≺ neg (margin_of part f (z3 ⊗ z3))))
          (infinite e) test))
      go (inr r) = decided_no part F y logs E (add-fits binary64 _ _) logs-over (exponent r) E-most (z3 ⊗ z3) (w * w) q test

  pub inside :
      (part : Float) (F : Counted power_errors part) → T (dual.margin part α z1 z2 z3 ≺ dual.residue α z1 z2 z3) → dual.Inside α z1 z2 z3
  inside part F test = record {
    first_above = units-above z1 a c1.some c1.is;
    second_above = units-above z2 b c2.some c2.is;
    number-above = λ n.
        let pw : 0 < w = units-some z3 c3.sign w c3.is n in
        above_moves number-over (same pw) (above part F pw test);
  }

  pub outside :
      (part : Float) (F : Counted power_errors part) → T (dual.residue α z1 z2 z3 ≺ neg (dual.margin part α z1 z2 z3))
      → (0 < num z3) × BelowZero (dual.number α z1 z2 z3)
  outside part F test =
      let d = below part F test in
      let pw : 0 < w = root_some w d.0 in
      (num_pos_of z3 c3.sign w pw c3.is, below_moves number-over (same pw) d.1)
