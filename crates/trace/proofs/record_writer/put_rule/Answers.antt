-- `put_rule` meets its contract: edition 3 has one rule, the others none. Assumes nothing.
use mathlib.Core.Path.{◌∙◌, sym}
use native.Mathlib.Omega.{arith}
use Rattle.octets.specs.words.Words.{le, row_bytes}
use Rattle.trace.proofs.record_writer.Bits.{one-rule, no_rule}
use Rattle.trace.proofs.record_writer.put_rule.Goals as goal

pub put-requires : goal.put-requires
put-requires c =
    omega (arith, one-rule c.args.edition (sym c.has_rule.ensures ∙ c.if-has_rule.true), c.requires)

pub returns-then-has_rule : goal.returns-then-has_rule
unfolding row_bytes le
returns-then-has_rule c =
    rw (one-rule _ (sym c.has_rule.ensures ∙ c.if-has_rule.true)) c.put.ensures

pub returns-else-has_rule : goal.returns-else-has_rule
unfolding row_bytes
returns-else-has_rule c = rw (no_rule _ (sym c.has_rule.ensures ∙ c.if-has_rule.false))
