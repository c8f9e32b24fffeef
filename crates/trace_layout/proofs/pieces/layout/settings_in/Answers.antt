-- `settings_in` meets its contract, by cases. Assumes nothing.
use borrow.Author.Tests.{eq-eqb, ne_eqb}
use Rattle.trace_layout.specs.Records.{settings_in}
use Rattle.trace_layout.proofs.pieces.layout.settings_in.Goals as goal

pub returns-then-flag-eq0 : goal.returns-then-flag-eq0
unfolding settings_in
returns-then-flag-eq0 c = simp (eq-eqb _ _ c.if-flag-eq0.true)

pub returns-else-flag-eq0 : goal.returns-else-flag-eq0
unfolding settings_in
returns-else-flag-eq0 c = simp (ne_eqb _ _ c.if-flag-eq0.false)
