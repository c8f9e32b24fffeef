-- What the test of a point tells in the exponential cone and in its dual: 000's tests, with 02's margins. Definitions only.
-- The formulas stand in specs/feasible/Primal and Dual, on three numbers; here they are of a point, whose places count from 0.
use Rattle.std.specs.Prelude.{Bool, List, Float}
use Rattle.double.specs.Operators.{at}
use Rattle.cone.specs.declared.verdict.Answer.{Answer}
use Rattle.cone.specs.verdict.Answers.{judged}
use Rattle.expcone.specs.declared.feasible.ExponentialResidue.{ExponentialResidue}
use Rattle.expcone.specs.feasible.Primal as primal
use Rattle.expcone.specs.feasible.Dual as dual

-- 000 is_primal_feasible, res: s2·log(s3/s2) - s1, counting from 1; l is the logarithm
unfoldable pub primal_residue_at : List Float → Float → ExponentialResidue
primal_residue_at s l = record { res = primal.residue (at s 0) (at s 1) l; log = l }

unfoldable pub primal_residue : List Float → ExponentialResidue
primal_residue s = primal_residue_at s (primal.log (at s 1) (at s 2))

-- 000 is_dual_feasible, res: z2 - z1 - z1·log(-z3/z1), counting from 1; l is the logarithm
unfoldable pub dual_residue_at : List Float → Float → ExponentialResidue
dual_residue_at z l = record { res = dual.residue (at z 0) (at z 1) l; log = l }

unfoldable pub dual_residue : List Float → ExponentialResidue
dual_residue z = dual_residue_at z (dual.log (at z 0) (at z 2))

-- 02, Order 5: "with l the computed log: primal 2^-40·(s2·(1+|l|)+|s1|)", counting from 1
unfoldable pub primal_margin_at : List Float → Float → Float
primal_margin_at s l = primal.margin (at s 0) (at s 1) l

-- the computed log is the residue's
unfoldable pub primal_margin : List Float → Float
primal_margin s = primal_margin_at s (primal_residue s).log

-- 02, Order 5: "dual 2^-40·(|z2|+|z1|·(1+|l|))"
unfoldable pub dual_margin_at : List Float → Float → Float
dual_margin_at z l = dual.margin (at z 0) (at z 1) l

unfoldable pub dual_margin : List Float → Float
dual_margin z = dual_margin_at z (dual_residue z).log

-- the sign tests of 000; a NaN passes none
unfoldable pub primal_signs : List Float → Bool
primal_signs s = primal.signs (at s 1) (at s 2)

unfoldable pub dual_signs : List Float → Bool
dual_signs z = dual.signs (at z 0) (at z 2)

-- 000 is_primal_feasible, is_dual_feasible. 02, Order 5: "Feasibility shall answer yes, no or undecided"
unfoldable pub primal_feasible : List Float → Answer
primal_feasible s = judged (primal_signs s) (primal_residue s).res (primal_margin s)

unfoldable pub dual_feasible : List Float → Answer
dual_feasible z = judged (dual_signs z) (dual_residue z).res (dual_margin z)
