-- `trace_row` asks the two rows in the definition's order. Assumes nothing.
use Rattle.cone.specs.table.Table.{trace_row}
use Rattle.cone.proofs.table.trace_row.Goals as goal

pub returns-then-broken : goal.returns-then-broken
unfolding trace_row
returns-then-broken c = simp c.if-broken.true

pub returns-then-full : goal.returns-then-full
unfolding trace_row
returns-then-full c = simp (c.if-broken.false, c.if-full.true)

pub returns : goal.returns
unfolding trace_row
returns c = simp (c.if-broken.false, c.if-full.false)
