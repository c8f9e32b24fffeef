-- A bad cone gets the record of no cone, any other its own. Assumes nothing.
use Rattle.cone.proofs.table.Settled.{refused_by, done_by}
use Rattle.call_cone.specs.formulas.Entries.{fresh_of}
use Rattle.call_cone.proofs.formulas.fresh.Goals as goal

pub returns-in-Err : goal.returns-in-Err
unfolding fresh_of
returns-in-Err c =
    simp (c.fresh-scaling.ensures, c.empty_cone-none.ensures)
    (refused_by _ _ _ _ _ _ c.fresh_rows.ensures c.in-Err.is c.number.ensures)

pub returns : goal.returns
unfolding fresh_of
returns c = simp c.fresh-scaling-2.ensures (done_by _ _ _ _ _ c.fresh_rows.ensures c.in_default.is)
