-- `rule` chooses as its definition does. Assumes nothing.
use mathlib.Core.Path.{sym, ◌∙◌}
use borrow.Author.Tests.{eq-eqb, ne_eqb}
use Rattle.trace_layout.specs.Records.{rule_at}
use Rattle.trace.proofs.value.Found.rule.Goals as goal

pub returns-then-rules_in-eq0 : goal.returns-then-rules_in-eq0
unfolding rule_at
returns-then-rules_in-eq0 c = rw (eq-eqb _ 0 (sym c.rules_in.ensures ∙ c.if-rules_in-eq0.true))

pub returns-else-rules_in-eq0 : goal.returns-else-rules_in-eq0
unfolding rule_at
returns-else-rules_in-eq0 c =
    rw (ne_eqb _ 0 (λ e. c.if-rules_in-eq0.false (c.rules_in.ensures ∙ e)), c.u32_at.ensures)
