-- The test of the exponential cone on three numbers. Definitions only. specs/feasible/Feasible has it of a point; `certain` proves what its
-- answers mean.
use Rattle.std.specs.Prelude.{Bool, ◌&&◌, Float}
use Rattle.double.specs.Operators.{◌⊕◌, ◌⊖◌, ◌⊗◌, ◌⊘◌, ◌≺◌}
use Rattle.double.specs.Numbers.{#0, #1}
use Rattle.double.specs.Sizes.{abs_of}
use Rattle.kernels.specs.Door.{log_of}
use Rattle.cone.specs.declared.verdict.Answer.{Answer}
use Rattle.cone.specs.verdict.Answers.{judged}
use Rattle.expcone.specs.feasible.Weights.{#part}

-- 000 is_primal_feasible: log(s3/s2), counting from 1
abbrev pub log : Float → Float → Float
log s2 s3 = log_of (s3 ⊘ s2)

-- s2·l - s1
abbrev pub residue : Float → Float → Float → Float
residue s1 s2 l = s2 ⊗ l ⊖ s1

-- 02, Order 5: "primal 2^-40·(s2·(1+|l|)+|s1|)"
abbrev pub margin : Float → Float → Float → Float
margin s1 s2 l = #part ⊗ (s2 ⊗ (#1 ⊕ abs_of l) ⊕ abs_of s1)

abbrev pub signs : Float → Float → Bool
signs s2 s3 = (#0 ≺ s3) && (#0 ≺ s2)

abbrev pub answer : Float → Float → Float → Answer
answer s1 s2 s3 = judged (signs s2 s3) (residue s1 s2 (log s2 s3)) (margin s1 s2 (log s2 s3))
