-- A call that its rows refuse leaves with their number, one that they let through with the finished barrier. Assumes nothing.
use mathlib.Core.Path.{refl, ◌∙◌, ap}
use Rattle.cone.proofs.table.Settled.{refused_by, done_by}
use Rattle.judges.specs.Refusals.{number_of}
use Rattle.call_cone.specs.formulas.Entries.{barrier_dual_of}
use Rattle.call_cone.proofs.formulas.barrier_dual.Goals as goal

pub returns-in-Err : goal.returns-in-Err
unfolding barrier_dual_of
returns-in-Err c = simp c.refused.ensures (refused_by _ _ _ _ _ _ c.read_rows.ensures c.in-Err.is refl)

pub returns : goal.returns
unfolding barrier_dual_of
returns c =
    c.finished.ensures ∙ ap number_of c.barrier_dual.ensures
    ∙ done_by _ _ _ _ _ c.read_rows.ensures c.in_default.is
