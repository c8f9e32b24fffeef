-- The test of the power cone on three numbers, and the exact number beside it. Definitions only. The formulas are powcone's
-- (powcone/specs/Feasible); here the margin's part is a parameter.
use Rattle.std.specs.Prelude.{◌<◌, Float}
use Rattle.std.specs.Float.Ieee.Positive.{num}
use Rattle.double.specs.Operators.{◌⊖◌, ◌⊗◌}
use Rattle.series.specs.Series.{Signed}
use Rattle.series.specs.change.SignedArithmetic.{times, minus, AboveZero}
use Rattle.exponential.specs.Steps.{exp_of}
use Rattle.cone.specs.declared.verdict.Answer.{Answer}
use Rattle.cone.specs.verdict.Margins.{margin_of}
use Rattle.powcone.specs.Feasible.{primal_exponent, signs_at}
use Rattle.certain.specs.Coordinates.{exact_of}
use Rattle.certain.specs.power.Margins.{answer_of}
use Rattle.certain.specs.power.Numbers.{sum, two, one, l_of_one, l_of_square}

-- 001 is_primal_feasible: the exponential less s3², counting from 1
abbrev pub residue : Float → Float → Float → Float → Float
residue α s1 s2 s3 = exp_of (primal_exponent α s1 s2) ⊖ s3 ⊗ s3

-- 02, Order 5: "2^-30·(the exponential plus the sumsq)"; the part is 2^-30 there
abbrev pub margin : Float → Float → Float → Float → Float → Float
margin part α s1 s2 s3 = margin_of part (exp_of (primal_exponent α s1 s2)) (s3 ⊗ s3)

abbrev pub answer : Float → Float → Float → Float → Float → Answer
answer part α s1 s2 s3 = answer_of part (signs_at s1 s2) (exp_of (primal_exponent α s1 s2)) (s3 ⊗ s3)

-- 2α·L(s1) + 2(1-α)·L(s2), with the exact 1-α; where it is asked for, s1 and s2 are above 0
abbrev pub logs : Float → Float → Float → Signed
logs α s1 s2 = sum (times (times two (exact_of α)) (l_of_one s1)) (times (times two (minus one (exact_of α))) (l_of_one s2))

-- less L(s3²), for s3 other than 0
unfoldable pub number : Float → Float → Float → Float → Signed
number α s1 s2 s3 = minus (logs α s1 s2) (l_of_square s3)

-- the exact point is inside: s1^2α·s2^2(1-α) is above s3², by logarithms
pub record Inside (α s1 s2 s3 : Float) : Type 0 where
  pub first_above : AboveZero (exact_of s1)
  pub second_above : AboveZero (exact_of s2)
  pub number-above : 0 < num s3 → AboveZero (number α s1 s2 s3)
