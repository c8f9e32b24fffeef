-- What the test of a point tells in the generalized power cone and in its dual: 002's tests, with 02's margin; α is the list of the
-- exponents in use. Definitions only.
use Rattle.std.specs.Prelude.{Bool, List, length, take, drop, Float}
use Rattle.kernels.specs.Door.{exp_of}
use Rattle.cone.specs.declared.verdict.Answer.{Answer}
use Rattle.cone.specs.declared.verdict.Residue.{Residue}
use Rattle.cone.specs.verdict.Answers.{judged}
use Rattle.cone.specs.verdict.Margins.{power_margin}
use Rattle.cone.specs.verdict.Residues.{residue_of}
use Rattle.algebra.specs.Vectors.{sumsq_of}
use Rattle.genpowcone.specs.loops.Folds.{all_above_zero, primal_log_sum, dual_log_sum}

-- the residue p - w, beside the two numbers that it is made of
unfoldable pub residue_at : Float → Float → Residue
residue_at p w = residue_of p w

-- the point's tail behind its head, which is as long as the exponents α
abbrev pub tail_of : List Float → List Float → List Float
tail_of α s = drop (length α) s

-- 002 is_primal_feasible, res: exp(Σ 2αᵢ·log sᵢ) less the tail's sumsq
unfoldable pub primal_residue : List Float → List Float → Residue
primal_residue α s = residue_at (exp_of (primal_log_sum α s)) (sumsq_of (tail_of α s))

-- 002 is_dual_feasible, res: exp(Σ 2αᵢ·log(zᵢ/αᵢ)) less the tail's sumsq
unfoldable pub dual_residue : List Float → List Float → Residue
dual_residue α z = residue_at (exp_of (dual_log_sum α z)) (sumsq_of (tail_of α z))

-- 02, Order 5: "2^-30·(the exponential plus the sumsq)", of the two numbers that the residue is made of
unfoldable pub primal_margin : List Float → List Float → Float
primal_margin α s = power_margin (primal_residue α s).power (primal_residue α s).square

unfoldable pub dual_margin : List Float → List Float → Float
dual_margin α z = power_margin (dual_residue α z).power (dual_residue α z).square

-- the sign tests of 002, the same on both sides; a NaN passes none
unfoldable pub signs : List Float → List Float → Bool
signs α s = all_above_zero (take (length α) s)

-- 002 is_primal_feasible, is_dual_feasible. 02, Order 5: "Feasibility shall answer yes, no or undecided"
unfoldable pub primal_feasible : List Float → List Float → Answer
primal_feasible α s = judged (signs α s) (primal_residue α s).res (primal_margin α s)

unfoldable pub dual_feasible : List Float → List Float → Answer
dual_feasible α z = judged (signs α z) (dual_residue α z).res (dual_margin α z)
