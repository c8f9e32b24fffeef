-- `first` meets its contract: the square is not above the number. Assumes nothing.
use native.Mathlib.Nat.{mul-le-mul}
use Prim.Native.Nat.{◌/◌, ◌^◌, ◌≤◌}
use native.Mathlib.Omega.{arith}
use borrow.Author.Rules.{rules}
use Rattle.root.specs.table_root.Steps.{first_of}
use Rattle.root.proofs.table_root.first.Goals as goal

pub overflow_mul-root : goal.overflow_mul-root
overflow_mul-root c =
    let a : c.args.m / 2 ^ 28 ≤ 2 ^ 26 = omega (arith, c.requires.number) in
    omega (arith, mul-le-mul a c.requires.reciprocal)

pub returns : goal.returns
unfolding first_of
returns c = search rules
