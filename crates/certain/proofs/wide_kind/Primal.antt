-- The generalized power cone itself: a residue beyond its margin tells the sign of Σ 2αᵢ·L(sᵢ) less L of the tail's squares. Assumes
-- nothing.
use mathlib.Core.Path.{◌≡◌, sym, ap, subst}
use mathlib.Core.Bool.{true, false}
use mathlib.Core.List.{List}
use mathlib.Core.Logic.{inr}
use Prim.Native.Nat.{ℕ, ◌*◌, ◌^◌, ◌≤◌, ◌<◌}
use native.Mathlib.Nat.{mul-pos, mul-le-mul_left, min-eq_left, lt_of_lt_of_le}
use lib.Dec.{T}
use lib.Pow.{pow_pos}
use lib.ListN.{length}
use lib.Ieee.{Float, binary64, neg}
use lib.Ieee.Positive.{num, den, den_pos}
use Rattle.arith.specs.Turns.{iter}
use Rattle.double.specs.Operators.{◌⊖◌, ◌⊗◌, ◌≺◌, at}
use Rattle.double.specs.Numbers.{#0, #2}
use Rattle.rounding.specs.Units.{units_of}
use Rattle.series.specs.Series.{Signed, lOf}
use Rattle.series.proofs.SignedFractions.{over_pos_of}
use Rattle.series.specs.change.SignedArithmetic.{BelowZero}
use Rattle.logarithm.specs.Steps.{log_of}
use Rattle.exponential.specs.Steps.{exp_of}
use Rattle.algebra.specs.Vectors.{sumsq_of}
use Rattle.genpowcone.specs.loops.Folds.{primal_log_turn, primal_log_sum}
use Rattle.cone.specs.verdict.Margins.{margin_of}
use Rattle.certain.proofs.power.Margins.{Counted, wide_errors}
use Rattle.certain.specs.Coordinates.{largest, exact_of}
use Rattle.certain.proofs.ExactCoordinates.{in_units, units_exact, exact_over}
use Rattle.certain.specs.power.Numbers.{l_of_one}
use Rattle.certain.proofs.power.Weights.{weighed}
use Rattle.certain.proofs.power.Coordinates.{LogOf, own_log}
use Rattle.certain.proofs.power.ExactNumbers.{same_twice, one_exact}
use Rattle.genpowcone.specs.Feasible.{tail_of, signs}
use Rattle.certain.specs.wide.Tests.{weight_at, primal_logs, over, number, Inside}
use Rattle.certain.specs.wide.Meaning.{Exponents, Point}
use Rattle.certain.proofs.wide_kind.LogSums.{added_to, At}
use Rattle.certain.proofs.wide_kind.Exact.{Alike}
use Rattle.certain.proofs.wide_kind.Points.{Exponent, exponent_at, weight-of, Head, head_at}
use Rattle.certain.proofs.wide_kind.Tests as tests
use Rattle.certain.proofs.wide_kind.Tests.{weight_to}

abbrev U : ℕ
U = 2 ^ 1074

module _ (α s : List Float) (e : Exponents α) (pt : Point α s) (passed : signs α s ≡ true) where
  abbrev p : ℕ → Float
  p i = #2 ⊗ at α i ⊗ log_of (at s i)

  abbrev x : ℕ → Signed
  x i = lOf (units_of binary64 (at s i)) U

  abbrev z : ℕ → Signed
  z i = l_of_one (at s i)

  module _ (i : ℕ) (l : i < length α) where
    abbrev a : Exponent (at α i)
    a = exponent_at e i l

    abbrev h : Head (at s i)
    h = head_at pt passed i l

    log : LogOf (log_of (at s i)) (x i)
    log =
        own_log (at s i) (units_of binary64 (at s i)) (pt.doubles i (lt_of_lt_of_le l pt.head)) h.is h.some
        (subst (λ (n : ℕ). n ≤ largest * U) h.same h.coordinate.most)
        (subst (λ (n : ℕ). U ≤ largest * n) h.same (h.coordinate.least (subst (λ (n : ℕ). 0 < n) (sym h.same) h.some)))

    at_i : At p x (weight_to α) i
    at_i = record {
      term = weighed (weight-of a) (mul-le-mul_left 2 a.most) log.log log.over-pos log.small;
      small = log.small;
      over-pos = log.over-pos;
      most = mul-le-mul_left 2 a.most;
    }

    alike_i : Alike (λ (i : ℕ). in_units false (weight_to α i)) (weight_at α) x z i
    alike_i = record {
      weights =
          same_twice (units_of binary64 (at α i)) (exact_of (at α i)) (exact_over (at α i))
          (units_exact (at α i) false (units_of binary64 (at α i)) a.is);
      numbers = one_exact (at s i) false (units_of binary64 (at s i)) h.some h.is;
      weight-over = mul-pos {m = 1} (pow_pos 0) (exact_over (at α i));
      number-over = over_pos_of (units_of binary64 (at s i)) U (pow_pos 1074);
      exact_over = over_pos_of (num (at s i)) (den (at s i)) (den_pos (at s i));
    }

  sum_is : added_to p x (weight_to α) (length α) ≡ primal_log_sum α s
  unfolding primal_log_sum
  sum_is = ap (λ (n : ℕ). iter (primal_log_turn α s) #0 n) (sym (min-eq_left pt.head))

  abbrev q : Float
  q = sumsq_of (tail_of α s)

  pub inside :
      (part : Float) (F : Counted wide_errors part) → T (margin_of part (exp_of (primal_log_sum α s)) q ≺ (exp_of (primal_log_sum α s) ⊖ q))
      → Inside (primal_logs α s) α s
  inside part F test =
      tests.inside α s e pt passed p x z (λ i l. inr (at_i i l)) alike_i part F
      (subst (λ (y : Float). T (margin_of part (exp_of y) q ≺ (exp_of y ⊖ q))) (sym sum_is) test)

  pub outside :
      (part : Float) (F : Counted wide_errors part) → T ((exp_of (primal_log_sum α s) ⊖ q) ≺ neg (margin_of part (exp_of (primal_log_sum α s)) q))
      → (0 < over α s) × BelowZero (number (primal_logs α s) α s)
  outside part F test =
      tests.outside α s e pt passed p x z (λ i l. inr (at_i i l)) alike_i part F
      (subst (λ (y : Float). T ((exp_of y ⊖ q) ≺ neg (margin_of part (exp_of y) q))) (sym sum_is) test)
