-- `counted` branches as its definition does. Assumes nothing.
use borrow.Author.Tests.{ne_eqb}
use Rattle.cone.proofs.table.Settled.{number_above_0}
use Rattle.judges.specs.Refusals.{counted_of}
use Rattle.judges.proofs.refusal.counted.Goals as goal

pub returns-in-Ok : goal.returns-in-Ok
unfolding counted_of
returns-in-Ok c = simp c.in-Ok.is

pub returns-in-Err : goal.returns-in-Err
unfolding counted_of
returns-in-Err c = simp (c.in-Err.is, ne_eqb _ _ (number_above_0 c.in-Err.refusal)) c.refused.ensures
