-- `moved_up` meets its contract: the test is the definition's. Assumes nothing.
use native.Mathlib.Omega.{arith}
use borrow.Author.Tests.{eq-eqb, ne_eqb}
use Rattle.trace_sheet.specs.counts.Counts.{moved_up}
use Rattle.trace_sheet.proofs.counts.moved_up.Goals as goal

pub returns-then-t-eq0 : goal.returns-then-t-eq0
unfolding moved_up
returns-then-t-eq0 c = rw (eq-eqb c.args.t.size 0 c.if-t-eq0.true)

pub returns : goal.returns
unfolding moved_up
returns c = rw (ne_eqb c.args.t.size 0 c.if-t-eq0.false)

pub overflow_add-result : goal.overflow_add-result
overflow_add-result c = omega (arith, c.requires c.if-t-eq0.false)
