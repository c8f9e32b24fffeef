-- `size_for` meets its contract: no sum wraps, since a dim has 32 bits. Assumes nothing.
use Prim.Native.Nat.{ℕ, ◌^◌, ◌≤◌, ◌<◌}
use native.Mathlib.Omega.{arith}
use Rattle.octets.specs.words.Runs.{runs_size}
use Rattle.trace_layout.specs.Records.{runs_for, exponents}
use Rattle.trace_layout.proofs.Records.{rules_most, exponents-most, settings-most}
use borrow.Author.Rules.{rules}
use Rattle.trace_layout.proofs.pieces.layout.size_for.Goals as goal

few_exponents : (kind dim1 : ℕ) → 0 < 2 ^ 32 → dim1 < 2 ^ 32 → exponents kind dim1 ≤ 2 ^ 32
few_exponents kind dim1 p h = exponents-most kind dim1 (2 ^ 32) (search rules) (search rules)

pub overflow_mul-result : goal.overflow_mul-result
overflow_mul-result c = omega (arith, rules_most c.args.edition)

pub overflow_add-result : goal.overflow_add-result
overflow_add-result c = omega (arith, rules_most c.args.edition)

pub overflow_mul-result-2 : goal.overflow_mul-result-2
overflow_mul-result-2 c = omega (arith, few_exponents c.args.kind c.args.dim1 (omega arith) (omega arith))

pub overflow_add-result-2 : goal.overflow_add-result-2
overflow_add-result-2 c = omega (arith, rules_most c.args.edition, few_exponents c.args.kind c.args.dim1 (omega arith) (omega arith))

pub overflow_mul-result-3 : goal.overflow_mul-result-3
overflow_mul-result-3 c = omega (arith, settings-most c.args.flag)

pub overflow_add-result-3 : goal.overflow_add-result-3
overflow_add-result-3 c = omega (
  arith,
  rules_most c.args.edition,
  few_exponents c.args.kind c.args.dim1 (omega arith)
      (omega arith),
  settings-most c.args.flag,
)

pub overflow_add-result-5 : goal.overflow_add-result-5
overflow_add-result-5 c = omega (
  arith,
  rules_most c.args.edition,
  few_exponents c.args.kind c.args.dim1 (omega arith)
      (omega arith),
  settings-most c.args.flag,
)

pub returns : goal.returns
unfolding runs_for runs_size
returns c = omega (arith, c.settings_in.ensures, c.exponents.ensures, c.rules_in.ensures)
