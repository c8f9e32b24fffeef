-- `rules_in` meets its contract, by cases. Assumes nothing.
use mathlib.Core.Path.{◌∙◌, sym}
use Rattle.trace_layout.specs.Records.{rules_in}
use Rattle.trace_layout.proofs.pieces.layout.rules_in.Goals as goal

pub returns-then-has_rule : goal.returns-then-has_rule
unfolding rules_in
returns-then-has_rule c = simp (sym c.has_rule.ensures ∙ c.if-has_rule.true)

pub returns-else-has_rule : goal.returns-else-has_rule
unfolding rules_in
returns-else-has_rule c = simp (sym c.has_rule.ensures ∙ c.if-has_rule.false)
