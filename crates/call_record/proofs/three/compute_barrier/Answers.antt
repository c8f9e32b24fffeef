-- A call that its rows refuse leaves with their number, one that they let through with the finished barrier. Assumes nothing.
use mathlib.Core.Path.{refl, ap}
use Rattle.cone.specs.table.Table.{code_of}
use Rattle.cone.proofs.table.Settled.{both, refused_by, through}
use Rattle.call_record.specs.three.Entries.{compute_barrier_of}
use Rattle.call_record.proofs.Judging.{own-numbers}
use borrow.Author.Rules.{rules}
use Rattle.call_record.proofs.three.compute_barrier.Goals as goal

pub returns-in-Err : goal.returns-in-Err
unfolding compute_barrier_of
returns-in-Err c =
    let numbers = both c.sides_finite.ensures c.is_finite.ensures in
    simp c.refused.ensures (refused_by _ _ _ _ _ _ (own-numbers _ _ _ _ _ c.rows.ensures numbers) c.in-Err.is refl)

pub returns : goal.returns
unfolding compute_barrier_of
returns c =
    let numbers = both c.sides_finite.ensures c.is_finite.ensures in
    through _ _ _ _ (own-numbers _ _ _ _ _ c.rows.ensures numbers) (ap code_of c.in_default.is)
    (simp (
      ← c.three_of.ensures,
      ← c.three_of-2.ensures,
      ← c.three_of-3.ensures,
      ← c.three_of-4.ensures,
      ← c.compute_barrier.ensures,
    )
    c.judged.ensures)
