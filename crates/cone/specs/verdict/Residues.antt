-- What a test of either power cone compares with its margin, and what it tells. Definitions only.
use Rattle.std.specs.Prelude.{Float}
use Rattle.double.specs.Operators.{◌⊖◌}
use Rattle.cone.specs.declared.verdict.Answer.{Answer}
use Rattle.cone.specs.declared.verdict.Residue.{Residue}
use Rattle.cone.specs.verdict.Answers.{told_of}
use Rattle.cone.specs.verdict.Margins.{power_margin}

-- the residue p - q, beside the two numbers that it is made of
abbrev pub residue_of : Float → Float → Residue
residue_of p q = record { res = p ⊖ q; power = p; square = q }

-- 02, Order 5: "2^-30·(the exponential plus the sumsq)", of the two numbers that the residue is made of
abbrev pub answer_of : Residue → Answer
answer_of r = told_of r.res (power_margin r.power r.square)
