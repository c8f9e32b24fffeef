-- What a yes and a no of the generalized power cone say, proved: the tests behind an answer are read off it, the rest is Primal and Dual.
-- Assumes nothing.
use mathlib.Core.Path.{◌≡◌}
use mathlib.Core.Bool.{true}
use mathlib.Core.List.{List}
use Prim.Native.Nat.{◌<◌}
use lib.Ieee.{Float}
use Rattle.double.specs.Operators.{◌⊖◌}
use Rattle.double.specs.Numbers.{pow2}
use Rattle.exponential.specs.Steps.{exp_of}
use Rattle.algebra.specs.Vectors.{sumsq_of}
use Rattle.genpowcone.specs.loops.Folds.{primal_log_sum, dual_log_sum}
use Rattle.series.specs.change.SignedArithmetic.{BelowZero}
use Rattle.cone.specs.verdict.Margins.{#2⁻³⁰, margin_of}
use Rattle.cone.specs.declared.verdict.Answer.TheVariants.{No, Yes}
use Rattle.certain.specs.power.Margins.{least_of_wide, Part}
use Rattle.certain.proofs.power.Margins.{Counted, wide_errors, counted, wide_enough, wide_order_5, wide_least}
use Rattle.certain.proofs.Decided.{yes_tests, no_tests}
use Rattle.genpowcone.specs.Feasible.{tail_of, signs}
use Rattle.certain.specs.wide.Tests.{primal_answer, dual_answer, primal_logs, dual_logs, over, number, Inside}
use Rattle.certain.specs.wide.Meaning.{Exponents, Point, Proved, Order5, Room}
use Rattle.certain.proofs.wide_kind.Primal as primal
use Rattle.certain.proofs.wide_kind.Dual as dual

module _ (part : Float) (P : Part least_of_wide part) (α s : List Float) (e : Exponents α) (p : Point α s) where
  abbrev q : Float
  q = sumsq_of (tail_of α s)

  F : Counted wide_errors part
  F = counted wide_enough part P

  primal_yes : primal_answer part α s ≡ Yes → Inside (primal_logs α s) α s
  primal_yes a =
      let t = yes_tests (signs α s) (exp_of (primal_log_sum α s) ⊖ q) (margin_of part (exp_of (primal_log_sum α s)) q) a in
      primal.inside α s e p t.0 part F t.1

  primal_no : signs α s ≡ true → primal_answer part α s ≡ No → (0 < over α s) × BelowZero (number (primal_logs α s) α s)
  primal_no passed a =
      primal.outside α s e p passed part F (no_tests (signs α s) (exp_of (primal_log_sum α s) ⊖ q)
      (margin_of part (exp_of (primal_log_sum α s)) q) passed a)

  dual_yes : dual_answer part α s ≡ Yes → Inside (dual_logs α s) α s
  dual_yes a =
      let t = yes_tests (signs α s) (exp_of (dual_log_sum α s) ⊖ q) (margin_of part (exp_of (dual_log_sum α s)) q) a in
      dual.inside α s e p t.0 part F t.1

  dual_no : signs α s ≡ true → dual_answer part α s ≡ No → (0 < over α s) × BelowZero (number (dual_logs α s) α s)
  dual_no passed a =
      dual.outside α s e p passed part F (no_tests (signs α s) (exp_of (dual_log_sum α s) ⊖ q)
      (margin_of part (exp_of (dual_log_sum α s)) q) passed a)

pub meaning : Proved
meaning part P = record {
  primal_yes = primal_yes part P;
  primal_no = primal_no part P;
  dual_yes = dual_yes part P;
  dual_no = dual_no part P;
}

pub order_5 : Order5
order_5 = meaning #2⁻³⁰ wide_order_5

pub room : Room
room = meaning (pow2 least_of_wide) wide_least
