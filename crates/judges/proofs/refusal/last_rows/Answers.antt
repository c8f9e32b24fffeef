-- `last_rows` asks the two rows in the definition's order, and hands on the record that it was lent. Assumes nothing.
use mathlib.Core.Path.{sym, ◌∙◌}
use Rattle.judges.specs.Refusals.{last_rows}
use Rattle.judges.proofs.refusal.last_rows.Goals as goal

pub returns-in-None : goal.returns-in-None
unfolding last_rows
returns-in-None c = (simp c.in-None.is, tt)

pub returns-in-Some : goal.returns-in-Some
unfolding last_rows
returns-in-Some c = (simp (c.in-Some.is, sym c.record_finite.ensures ∙ c.if-not-record_finite.true), tt)

pub returns-in-Some-2 : goal.returns-in-Some-2
unfolding last_rows
returns-in-Some-2 c = (simp (c.in-Some.is, sym c.record_finite.ensures ∙ c.if-not-record_finite.false), c.in-Some-2.is)
