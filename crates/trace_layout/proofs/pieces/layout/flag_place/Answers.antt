-- `flag_place` meets its contract: no sum wraps, since a dim has 32 bits. Assumes nothing.
use Prim.Native.Nat.{ℕ, ◌^◌, ◌≤◌, ◌<◌}
use native.Mathlib.Omega.{arith}
use Rattle.trace_layout.specs.Records.{flag_place, exponents}
use Rattle.trace_layout.proofs.Records.{rules_most, exponents-most}
use borrow.Author.Rules.{rules}
use Rattle.trace_layout.proofs.pieces.layout.flag_place.Goals as goal

few_exponents : (kind dim1 : ℕ) → 0 < 2 ^ 32 → dim1 < 2 ^ 32 → exponents kind dim1 ≤ 2 ^ 32
few_exponents kind dim1 p h = exponents-most kind dim1 (2 ^ 32) (search rules) (search rules)

pub overflow_mul-result : goal.overflow_mul-result
overflow_mul-result c = omega (arith, rules_most c.args.edition)

pub overflow_add-result : goal.overflow_add-result
overflow_add-result c = omega (arith, rules_most c.args.edition)

pub overflow_mul-result-2 : goal.overflow_mul-result-2
overflow_mul-result-2 c = omega (arith, few_exponents c.args.kind c.args.dim1 (omega arith) (omega arith))

pub overflow_add-result-2 : goal.overflow_add-result-2
overflow_add-result-2 c = omega (arith, rules_most c.args.edition, few_exponents c.args.kind c.args.dim1 (omega arith) (omega arith))

pub returns : goal.returns
unfolding flag_place
returns c = omega (arith, c.exponents.ensures, c.rules_in.ensures)
