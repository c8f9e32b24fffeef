-- `first_row` asks the rows in the definition's order. Assumes nothing.
use Rattle.cone.specs.table.Table.{first_row}
use Rattle.cone.proofs.table.first_row.Goals as goal

pub returns-then-faults : goal.returns-then-faults
unfolding first_row
returns-then-faults c = simp c.if-faults.true

pub returns-then-faults-2 : goal.returns-then-faults-2
unfolding first_row
returns-then-faults-2 c = simp (c.if-faults.false, c.if-faults-2.true)

pub returns-then-faults-3 : goal.returns-then-faults-3
unfolding first_row
returns-then-faults-3 c = simp (c.if-faults.false, c.if-faults-2.false, c.if-faults-3.true)

pub returns-then-faults-4 : goal.returns-then-faults-4
unfolding first_row
returns-then-faults-4 c =
    let past_2 = c.before.before in
    simp (past_2.if-faults.false, past_2.if-faults-2.false, c.if-faults-3.false, c.if-faults-4.true)

pub returns-then-faults-5 : goal.returns-then-faults-5
unfolding first_row
returns-then-faults-5 c =
    let past_3 = c.before.before in
    let past_2 = past_3.before in
    simp (past_2.if-faults.false, past_2.if-faults-2.false, past_3.if-faults-3.false, c.if-faults-4.false, c.if-faults-5.true)

pub returns-then-faults-6 : goal.returns-then-faults-6
unfolding first_row
returns-then-faults-6 c =
    let past_4 = c.before.before in
    let past_3 = past_4.before in
    let past_2 = past_3.before in
    simp (past_2.if-faults.false, past_2.if-faults-2.false, past_3.if-faults-3.false, past_4.if-faults-4.false, c.if-faults-5.false, c.if-faults-6.true)

pub returns-then-faults-7 : goal.returns-then-faults-7
unfolding first_row
returns-then-faults-7 c =
    let past_5 = c.before.before in
    let past_4 = past_5.before in
    let past_3 = past_4.before in
    let past_2 = past_3.before in
    simp (
      past_2.if-faults.false,
      past_2.if-faults-2.false,
      past_3.if-faults-3.false,
      past_4.if-faults-4.false,
      past_5.if-faults-5.false,
      c.if-faults-6.false,
      c.if-faults-7.true,
    )

pub returns : goal.returns
unfolding first_row
returns c =
    let past_5 = c.before.before in
    let past_4 = past_5.before in
    let past_3 = past_4.before in
    let past_2 = past_3.before in
    simp (
      past_2.if-faults.false,
      past_2.if-faults-2.false,
      past_3.if-faults-3.false,
      past_4.if-faults-4.false,
      past_5.if-faults-5.false,
      c.if-faults-6.false,
      c.if-faults-7.false,
    )
