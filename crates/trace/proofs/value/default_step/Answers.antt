-- `default_step` meets its contract: one test, each way. Assumes nothing.
use borrow.Author.Tests.{eq-eqb, ne_eqb}
use Rattle.trace.specs.value.Defaults.{default_step}
use Rattle.trace.proofs.value.default_step.Goals as goal

pub returns-then-edition-eq1 : goal.returns-then-edition-eq1
unfolding default_step
returns-then-edition-eq1 c = rw (eq-eqb _ _ c.if-edition-eq1.true)

pub returns-else-edition-eq1 : goal.returns-else-edition-eq1
unfolding default_step
returns-else-edition-eq1 c = rw (ne_eqb _ _ c.if-edition-eq1.false)
