-- A call that its rows refuse leaves with their number, one that they let through with the finished barrier. Assumes nothing.
use mathlib.Core.Path.{refl, ap}
use Rattle.cone.specs.table.Table.{code_of}
use Rattle.cone.proofs.table.Settled.{refused_by, through}
use Rattle.call_record.specs.three.Entries.{barrier_primal_of}
use Rattle.call_record.proofs.Judging.{own-numbers}
use borrow.Author.Rules.{rules}
use Rattle.call_record.proofs.three.barrier_primal.Goals as goal

pub returns-in-Err : goal.returns-in-Err
unfolding barrier_primal_of
returns-in-Err c = simp c.refused.ensures (refused_by _ _ _ _ _ _ (own-numbers _ _ _ _ _ c.rows.ensures c.all_finite.ensures) c.in-Err.is refl)

pub returns : goal.returns
unfolding barrier_primal_of
returns c =
    through _ _ _ _ (own-numbers _ _ _ _ _ c.rows.ensures c.all_finite.ensures) (ap code_of c.in_default.is)
    (simp (← c.three_of.ensures, ← c.barrier_primal.ensures) c.judged.ensures)
