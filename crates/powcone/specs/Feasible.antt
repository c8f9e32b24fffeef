-- What the test of a point tells in the power cone and in its dual: 001's tests, with 02's margin. Definitions only.
use Rattle.std.specs.Prelude.{Bool, ◌&&◌, List, Float}
use Rattle.double.specs.Operators.{◌⊕◌, ◌⊖◌, ◌⊗◌, ◌⊘◌, ◌≺◌, at}
use Rattle.double.specs.Numbers.{#0, #1, #2}
use Rattle.kernels.specs.Door.{log_of, exp_of}
use Rattle.cone.specs.declared.verdict.Answer.{Answer}
use Rattle.cone.specs.declared.verdict.Residue.{Residue}
use Rattle.cone.specs.verdict.Answers.{judged}
use Rattle.cone.specs.verdict.Margins.{power_margin}
use Rattle.cone.specs.verdict.Residues.{residue_of}

-- the residue p - w², beside the two numbers that it is made of
unfoldable pub residue_at : Float → Float → Residue
residue_at p w = residue_of p (w ⊗ w)

-- 001 is_primal_feasible, res: exp(2α·log s1 + 2(1-α)·log s2) - s3², counting from 1
abbrev pub primal_exponent : Float → Float → Float → Float
primal_exponent α s1 s2 = #2 ⊗ α ⊗ log_of s1 ⊕ #2 ⊗ (#1 ⊖ α) ⊗ log_of s2

unfoldable pub primal_residue : Float → List Float → Residue
primal_residue α s = residue_at (exp_of (primal_exponent α (at s 0) (at s 1))) (at s 2)

-- 001 is_dual_feasible, res: exp(2α·log(z1/α) + (1-α)·log(z2/(1-α))·2) - z3²
abbrev pub dual_exponent : Float → Float → Float → Float
dual_exponent α z1 z2 = α ⊗ #2 ⊗ log_of (z1 ⊘ α) ⊕ (#1 ⊖ α) ⊗ log_of (z2 ⊘ (#1 ⊖ α)) ⊗ #2

unfoldable pub dual_residue : Float → List Float → Residue
dual_residue α z = residue_at (exp_of (dual_exponent α (at z 0) (at z 1))) (at z 2)

-- 02, Order 5: "2^-30·(the exponential plus the sumsq)", of the two numbers that the residue is made of
unfoldable pub primal_margin : Float → List Float → Float
primal_margin α s = power_margin (primal_residue α s).power (primal_residue α s).square

unfoldable pub dual_margin : Float → List Float → Float
dual_margin α z = power_margin (dual_residue α z).power (dual_residue α z).square

-- the sign tests of 001, the same on both sides; a NaN passes none
abbrev pub signs_at : Float → Float → Bool
signs_at s1 s2 = (#0 ≺ s1) && (#0 ≺ s2)

unfoldable pub signs : List Float → Bool
signs s = signs_at (at s 0) (at s 1)

-- 001 is_primal_feasible, is_dual_feasible. 02, Order 5: "Feasibility shall answer yes, no or undecided"
unfoldable pub primal_feasible : Float → List Float → Answer
primal_feasible α s = judged (signs s) (primal_residue α s).res (primal_margin α s)

unfoldable pub dual_feasible : Float → List Float → Answer
dual_feasible α z = judged (signs z) (dual_residue α z).res (dual_margin α z)
