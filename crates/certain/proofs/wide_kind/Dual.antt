-- The generalized power cone's dual: a residue beyond its margin tells the sign of Σ 2αᵢ·L(zᵢ/αᵢ) less L of the tail's squares. Assumes
-- nothing. Where a quotient overflows, so does the exponential, and nothing is told.
use mathlib.Core.Path.{◌≡◌, sym, ap, ◌∙◌, subst}
use mathlib.Core.Bool.{true, false}
use mathlib.Core.List.{List}
use mathlib.Core.Logic.{◌⊎◌, inl, inr}
use Prim.Native.Nat.{ℕ, ◌*◌, ◌^◌, ◌≤◌, ◌<◌}
use native.Mathlib.Nat.{le_trans, mul-pos, mul-le-mul_left, min-eq_left}
use native.Mathlib.Omega.{arith}
use lib.Dec.{T, lit≤}
use lib.Pow.{pow_pos}
use lib.ListN.{length}
use lib.Ieee.{Float, inf, binary64, neg}
use lib.Ieee.Fits.{div-fits}
use Rattle.arith.specs.Turns.{iter}
use Rattle.double.specs.Operators.{◌⊖◌, ◌⊗◌, ◌⊘◌, ◌≺◌, at}
use Rattle.double.specs.Numbers.{#0, #2}
use Rattle.rounding.specs.Units.{units_of}
use Rattle.series.specs.Series.{Signed, lOf}
use Rattle.series.proofs.SignedFractions.{over_pos_of}
use Rattle.series.specs.change.SignedArithmetic.{BelowZero}
use Rattle.logarithm.specs.Steps.{log_of}
use Rattle.logarithm.proofs.Promise as logarithm
use Rattle.exponential.specs.Steps.{exp_of}
use Rattle.algebra.specs.Vectors.{sumsq_of}
use Rattle.genpowcone.specs.loops.Folds.{dual_log_turn, dual_log_sum}
use Rattle.cone.specs.verdict.Margins.{margin_of}
use Rattle.certain.proofs.power.Margins.{Counted, wide_errors}
use Rattle.certain.specs.Coordinates.{largest, exact_of, l_of_quotient}
use Rattle.certain.proofs.ExactCoordinates.{in_units, units_exact, exact_over, quotient_exact, quotient-over}
use Rattle.certain.proofs.power.Weights.{weighed}
use Rattle.certain.proofs.power.Coordinates.{LogOf}
use Rattle.certain.proofs.power.Quotients.{InRange, quotient_cases, quotient-log}
use Rattle.certain.proofs.power.ExactNumbers.{same_twice}
use Rattle.certain.proofs.power.Infinities.{mul_infinity}
use Rattle.certain.proofs.power.Dual.{large_of, itself}
use Rattle.genpowcone.specs.Feasible.{tail_of, signs}
use Rattle.certain.specs.wide.Tests.{weight_at, dual_logs, over, number, Inside}
use Rattle.certain.specs.wide.Meaning.{Exponents, Point}
use Rattle.certain.proofs.wide_kind.LogSums.{added_to, At}
use Rattle.certain.proofs.wide_kind.Exact.{Alike}
use Rattle.certain.proofs.wide_kind.Points.{Exponent, exponent_at, weight-of, positive_of, Head, head_at}
use Rattle.certain.proofs.wide_kind.Tests as tests
use Rattle.certain.proofs.wide_kind.Tests.{weight_to}

abbrev U : ℕ
U = 2 ^ 1074

module _ (α s : List Float) (e : Exponents α) (pt : Point α s) (passed : signs α s ≡ true) where
  abbrev p : ℕ → Float
  p i = #2 ⊗ at α i ⊗ log_of (at s i ⊘ at α i)

  abbrev x : ℕ → Signed
  x i = lOf (units_of binary64 (at s i)) (units_of binary64 (at α i))

  abbrev z : ℕ → Signed
  z i = l_of_quotient (at s i) (at α i)

  module _ (i : ℕ) (l : i < length α) where
    abbrev a : Exponent (at α i)
    a = exponent_at e i l

    abbrev h : Head (at s i)
    h = head_at pt passed i l

    abbrev A : ℕ
    A = units_of binary64 (at α i)

    abbrev n : ℕ
    n = units_of binary64 (at s i)

    n-least : U ≤ largest * n
    n-least = subst (λ (m : ℕ). U ≤ largest * m) h.same (h.coordinate.least (subst (λ (m : ℕ). 0 < m) (sym h.same) h.some))

    A-most : A ≤ 2 * U
    A-most = le_trans a.most (lit≤ tt)

    cases : ((at s i ⊘ at α i) ≡ inf false) ⊎ InRange (at s i ⊘ at α i) n A
    cases = quotient_cases (at s i) (at α i) n A a.some h.is a.is (large_of n A U (2 ^ 52) A-most (lit≤ tt) n-least)

    log : InRange (at s i ⊘ at α i) n A → LogOf (log_of (at s i ⊘ at α i)) (x i)
    log r =
        quotient-log (at s i ⊘ at α i) n A A largest (div-fits binary64 (at s i) (at α i)) h.some a.some a.some A-most n-least
        (lit≤ tt)
        (twice A) (twice A) r (itself (lOf n A))
      where
        twice : (m : ℕ) → m ≤ 2 * m
        twice m = omega arith

    each_i : (p i ≡ inf false) ⊎ At p x (weight_to α) i
    each_i = go cases
      where
        go : ((at s i ⊘ at α i) ≡ inf false) ⊎ InRange (at s i ⊘ at α i) n A → (p i ≡ inf false) ⊎ At p x (weight_to α) i
        go (inl f) =
            inl (ap (λ (t : Float). #2 ⊗ at α i ⊗ log_of t) f ∙ ap (λ (t : Float). #2 ⊗ at α i ⊗ t) (logarithm.promise).of_infinity
            ∙ mul_infinity (#2 ⊗ at α i) (positive_of a).units (positive_of a).some (positive_of a).is)
        go (inr r) =
            let k = log r in
            inr (record {
              term = weighed (weight-of a) (mul-le-mul_left 2 a.most) k.log k.over-pos k.small;
              small = k.small;
              over-pos = k.over-pos;
              most = mul-le-mul_left 2 a.most;
            })

    alike_i : Alike (λ (i : ℕ). in_units false (weight_to α i)) (weight_at α) x z i
    alike_i = record {
      weights = same_twice A (exact_of (at α i)) (exact_over (at α i)) (units_exact (at α i) false A a.is);
      numbers = quotient_exact (at s i) (at α i) false false n A h.some a.some h.is a.is;
      weight-over = mul-pos {m = 1} (pow_pos 0) (exact_over (at α i));
      number-over = over_pos_of n A a.some;
      exact_over = quotient-over (at s i) (at α i) false A a.some a.is;
    }

  sum_is : added_to p x (weight_to α) (length α) ≡ dual_log_sum α s
  unfolding dual_log_sum
  sum_is = ap (λ (n : ℕ). iter (dual_log_turn α s) #0 n) (sym (min-eq_left pt.head))

  abbrev q : Float
  q = sumsq_of (tail_of α s)

  pub inside :
      (part : Float) (F : Counted wide_errors part) → T (margin_of part (exp_of (dual_log_sum α s)) q ≺ (exp_of (dual_log_sum α s) ⊖ q))
      → Inside (dual_logs α s) α s
  inside part F test =
      tests.inside α s e pt passed p x z each_i alike_i part F
      (subst (λ (y : Float). T (margin_of part (exp_of y) q ≺ (exp_of y ⊖ q))) (sym sum_is) test)

  pub outside :
      (part : Float) (F : Counted wide_errors part) → T ((exp_of (dual_log_sum α s) ⊖ q) ≺ neg (margin_of part (exp_of (dual_log_sum α s)) q))
      → (0 < over α s) × BelowZero (number (dual_logs α s) α s)
  outside part F test =
      tests.outside α s e pt passed p x z each_i alike_i part F
      (subst (λ (y : Float). T ((exp_of y ⊖ q) ≺ neg (margin_of part (exp_of y) q))) (sym sum_is) test)
