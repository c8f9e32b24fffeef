-- A call that its rows refuse leaves with their number and no, one that they let through with the test's answer. Assumes nothing.
use mathlib.Core.Path.{refl}
use Rattle.cone.proofs.table.Settled.{refused_by, done_by}
use Rattle.call_cone.proofs.feasibility.feasible.Goals as goal

pub returns-in-Err : goal.returns-in-Err
returns-in-Err c = simp c.refused.ensures (refused_by _ _ _ _ _ _ c.read_rows.ensures c.in-Err.is refl)

pub returns : goal.returns
returns c =
    simp (c.number.ensures, c.answer-told.ensures) (done_by _ _ _ _ _ c.read_rows.ensures c.in_default.is)
