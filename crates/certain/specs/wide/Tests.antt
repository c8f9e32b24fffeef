-- The exact numbers beside the generalized power cone's test and its dual's. Definitions only. The formulas are genpowcone's
-- (genpowcone/specs/Feasible, genpowcone/specs/loops/Folds); here the margin's part is a parameter.
use Rattle.std.specs.Prelude.{ℕ, ◌<◌, List, length, Float}
use Rattle.double.specs.Operators.{at}
use Rattle.series.specs.Series.{Signed, lOf}
use Rattle.series.specs.change.SignedArithmetic.{times, minus, AboveZero}
use Rattle.kernels.specs.Door.{exp_of}
use Rattle.algebra.specs.Vectors.{sumsq_of}
use Rattle.genpowcone.specs.loops.Folds.{primal_log_sum, dual_log_sum}
use Rattle.genpowcone.specs.Feasible.{tail_of, signs}
use Rattle.cone.specs.declared.verdict.Answer.{Answer}
use Rattle.certain.specs.Coordinates.{exact_of, l_of_quotient}
use Rattle.certain.specs.power.Margins.{answer_of}
use Rattle.certain.specs.power.Numbers.{two, l_of_one}
use Rattle.certain.specs.wide.Sums.{weighed_sum, squares_over, squares_under}

-- 002 is_primal_feasible and is_dual_feasible, of the logarithms' sum y, with the margin's part of Order 5
abbrev pub answer_at : Float → Float → List Float → List Float → Answer
answer_at part y α s = answer_of part (signs α s) (exp_of y) (sumsq_of (tail_of α s))

abbrev pub primal_answer : Float → List Float → List Float → Answer
primal_answer part α s = answer_at part (primal_log_sum α s) α s

abbrev pub dual_answer : Float → List Float → List Float → Answer
dual_answer part α z = answer_at part (dual_log_sum α z) α z

-- 2αᵢ
abbrev pub weight_at : List Float → ℕ → Signed
weight_at α i = times two (exact_of (at α i))

-- Σ 2αᵢ·L(sᵢ), and Σ 2αᵢ·L(zᵢ/αᵢ); where they are asked for, each sᵢ and zᵢ of the head is above 0
abbrev pub primal_logs : List Float → List Float → Signed
primal_logs α s = weighed_sum (weight_at α) (λ (i : ℕ). l_of_one (at s i)) (length α)

abbrev pub dual_logs : List Float → List Float → Signed
dual_logs α z = weighed_sum (weight_at α) (λ (i : ℕ). l_of_quotient (at z i) (at α i)) (length α)

-- the tail's squares, their exact sum: over / under
abbrev pub over : List Float → List Float → ℕ
over α s = squares_over (tail_of α s) (length (tail_of α s))

abbrev pub under : List Float → List Float → ℕ
under α s = squares_under (tail_of α s) (length (tail_of α s))

-- less L of the tail's exact sum of squares, for a tail that is not all 0
unfoldable pub number : Signed → List Float → List Float → Signed
number logs α s = minus logs (lOf (over α s) (under α s))

-- the exact point is inside: the head is above 0, and the product of powers above the tail's squares, by logarithms
pub record Inside (logs : Signed) (α s : List Float) : Type 0 where
  pub head-above : (i : ℕ) → i < length α → AboveZero (exact_of (at s i))
  pub number-above : 0 < over α s → AboveZero (number logs α s)
