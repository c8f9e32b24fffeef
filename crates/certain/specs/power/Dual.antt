-- The test of the power cone's dual on three numbers, and the exact number beside it. Definitions only. As specs/power/Primal.
use Rattle.std.specs.Prelude.{◌-◌, ◌*◌, ◌<◌, Float}
use Rattle.std.specs.Float.Ieee.Positive.{num, den}
use Rattle.double.specs.Operators.{◌⊖◌, ◌⊗◌}
use Rattle.series.specs.Series.{Signed, lOf}
use Rattle.series.specs.change.SignedArithmetic.{times, minus, AboveZero}
use Rattle.exponential.specs.Steps.{exp_of}
use Rattle.cone.specs.declared.verdict.Answer.{Answer}
use Rattle.cone.specs.verdict.Margins.{margin_of}
use Rattle.powcone.specs.Feasible.{dual_exponent, signs_at}
use Rattle.certain.specs.Coordinates.{exact_of, l_of_quotient}
use Rattle.certain.specs.power.Margins.{answer_of}
use Rattle.certain.specs.power.Numbers.{sum, two, one, l_of_square}

-- 001 is_dual_feasible: the exponential less z3², counting from 1
abbrev pub residue : Float → Float → Float → Float → Float
residue α z1 z2 z3 = exp_of (dual_exponent α z1 z2) ⊖ z3 ⊗ z3

abbrev pub margin : Float → Float → Float → Float → Float → Float
margin part α z1 z2 z3 = margin_of part (exp_of (dual_exponent α z1 z2)) (z3 ⊗ z3)

abbrev pub answer : Float → Float → Float → Float → Float → Answer
answer part α z1 z2 z3 = answer_of part (signs_at z1 z2) (exp_of (dual_exponent α z1 z2)) (z3 ⊗ z3)

-- L(z/(1-α)), with the exact 1-α: (den α - num α)/den α
abbrev pub l_of_rest : Float → Float → Signed
l_of_rest z α = lOf (num z * den α) (den z * (den α - num α))

-- 2α·L(z1/α) + 2(1-α)·L(z2/(1-α)); where it is asked for, z1 and z2 are above 0
abbrev pub logs : Float → Float → Float → Signed
logs α z1 z2 = sum (times (times two (exact_of α)) (l_of_quotient z1 α)) (times (times two (minus one (exact_of α))) (l_of_rest z2 α))

unfoldable pub number : Float → Float → Float → Float → Signed
number α z1 z2 z3 = minus (logs α z1 z2) (l_of_square z3)

-- the exact point is inside: (z1/α)^2α·(z2/(1-α))^2(1-α) is above z3², by logarithms
pub record Inside (α z1 z2 z3 : Float) : Type 0 where
  pub first_above : AboveZero (exact_of z1)
  pub second_above : AboveZero (exact_of z2)
  pub number-above : 0 < num z3 → AboveZero (number α z1 z2 z3)
