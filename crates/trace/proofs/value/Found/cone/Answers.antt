-- `cone` meets its contract: the rule, in an edition that has it, and the exponents stand behind the dims. Assumes nothing.
use Rattle.trace.proofs.value.Assembled.{few_exponents, cone-read}
use Rattle.trace.specs.value.Recorded.{row_in}
use Rattle.trace_layout.proofs.Records.{rules_most}
use Rattle.trace_layout.specs.Records.{exponents}
use lib.ListN.{drop}
use native.Mathlib.Omega.{arith}
use Prim.Native.Nat.{ℕ, ◌+◌, ◌*◌}
use mathlib.Core.Path.{◌∙◌, ap}
use Rattle.trace.proofs.value.Found.cone.Goals as goal

pub overflow_mul-place : goal.overflow_mul-place
overflow_mul-place c = omega (arith, c.rules_in.ensures, rules_most c.args.self.edition)

pub overflow_add-place : goal.overflow_add-place
overflow_add-place c = omega (arith, c.rules_in.ensures, rules_most c.args.self.edition)

pub row-exps-requires : goal.row-exps-requires
row-exps-requires c =
    let f = c.args.self in
    (omega arith, omega (arith, c.exponents-n.ensures, few_exponents f.edition f.bytes.now f.shape f.read f.laid))

pub returns : goal.returns
returns c =
    let f = c.args.self in
    let t = f.bytes.now in
    cone-read f.edition t f.shape f.read _ _ c.rule-rule.ensures
    (c.row-exps.ensures
    ∙ ap (λ (k : ℕ). row_in 32 k c.behind.result.now) c.exponents-n.ensures
    ∙ ap (row_in 32 (exponents f.shape.kind f.shape.dim1))
    (c.behind.ensures ∙ ap (λ (k : ℕ). drop (20 + 4 * k) t) c.rules_in.ensures))
