-- `step` meets its contract: what it needs is asked of its caller. Assumes nothing.
use mathlib.Core.Path.{refl}
use native.Mathlib.Nat.{mul-le-mul}
use native.Mathlib.Omega.{arith}
use borrow.Author.Rules.{rules}
use Rattle.root.specs.table_root.Steps.{addition, step_of}
use Rattle.root.proofs.table_root.step.Goals as goal

pub overflow_mul-rest : goal.overflow_mul-rest
overflow_mul-rest c = omega (arith, mul-le-mul c.requires.scaled c.requires.scaled)

pub overflow_add-result : goal.overflow_add-result
unfolding addition
overflow_add-result c = omega arith

pub overflow_add-result-2 : goal.overflow_add-result-2
unfolding addition
overflow_add-result-2 c = omega arith

pub overflow_mul-result-2 : goal.overflow_mul-result-2
unfolding addition
overflow_mul-result-2 c = omega arith

pub overflow_sub-result : goal.overflow_sub-result
unfolding addition
overflow_sub-result c = search rules

pub returns : goal.returns
unfolding step_of addition
returns c = refl
