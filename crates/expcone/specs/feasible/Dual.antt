-- The test of the exponential cone's dual on three numbers. Definitions only. As specs/feasible/Primal.
use Rattle.std.specs.Prelude.{Bool, ◌&&◌, Float}
use Rattle.std.specs.Float.Ieee.{neg}
use Rattle.double.specs.Operators.{◌⊕◌, ◌⊖◌, ◌⊗◌, ◌⊘◌, ◌≺◌}
use Rattle.double.specs.Numbers.{#0, #1}
use Rattle.double.specs.Sizes.{abs_of}
use Rattle.kernels.specs.Door.{log_of}
use Rattle.cone.specs.declared.verdict.Answer.{Answer}
use Rattle.cone.specs.verdict.Answers.{judged}
use Rattle.expcone.specs.feasible.Weights.{#part}

-- 000 is_dual_feasible: log(-z3/z1), counting from 1
abbrev pub log : Float → Float → Float
log z1 z3 = log_of (neg z3 ⊘ z1)

-- z2 - z1 - z1·l
abbrev pub residue : Float → Float → Float → Float
residue z1 z2 l = z2 ⊖ z1 ⊖ z1 ⊗ l

-- 02, Order 5: "dual 2^-40·(|z2|+|z1|·(1+|l|))"
abbrev pub margin : Float → Float → Float → Float
margin z1 z2 l = #part ⊗ (abs_of z2 ⊕ abs_of z1 ⊗ (#1 ⊕ abs_of l))

abbrev pub signs : Float → Float → Bool
signs z1 z3 = (#0 ≺ z3) && (z1 ≺ #0)

abbrev pub answer : Float → Float → Float → Answer
answer z1 z2 z3 = judged (signs z1 z3) (residue z1 z2 (log z1 z3)) (margin z1 z2 (log z1 z3))
