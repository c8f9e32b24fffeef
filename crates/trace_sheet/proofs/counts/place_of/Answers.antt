-- `place_of` meets its contract: the test is the definition's. Assumes nothing.
use borrow.Author.Tests.{eq-eqb, ne_eqb}
use Rattle.trace_sheet.specs.counts.Counts.{place_of}
use Rattle.trace_sheet.proofs.counts.place_of.Goals as goal

pub returns-then-step-eq0 : goal.returns-then-step-eq0
unfolding place_of
returns-then-step-eq0 c = rw (eq-eqb c.args.step 0 c.if-step-eq0.true)

pub returns : goal.returns
unfolding place_of
returns c = rw (ne_eqb c.args.step 0 c.if-step-eq0.false)
