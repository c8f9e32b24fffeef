-- A call that its rows refuse leaves with their number, one that they let through with the finished barrier. Assumes nothing.
use mathlib.Core.Path.{◌∙◌, ap, refl}
use Prim.Native.Nat.{◌+◌}
use native.Mathlib.Omega.{arith}
use lib.ListN.{length}
use Rattle.judges.specs.Refusals.{number_of}
use Rattle.cone.specs.Lent.{cone_at}
use Rattle.cone.specs.table.Table.{code_of}
use Rattle.cone.proofs.table.Settled.{both, refused_by, through}
use Rattle.judges.proofs.Lengths.{same_4}
use Rattle.call_record.specs.wide.Entries.{compute_barrier_of}
use Rattle.call_record.proofs.wide_rows.Judging.{small_dims}
use Rattle.call_record.proofs.Judging.{let_through, own-numbers}
use borrow.Author.Rules.{rules}
use Rattle.call_record.proofs.wide_kind.compute_barrier.Goals as goal

pub returns-in-Err : goal.returns-in-Err
unfolding compute_barrier_of
returns-in-Err c =
    let finite = both c.sides_finite.ensures c.is_finite.ensures in
    simp c.refused.ensures (refused_by _ _ _ _ _ _ (own-numbers _ _ _ _ _ c.rows.ensures finite) c.in-Err.is refl)

pub compute_barrier-requires : goal.compute_barrier-requires
compute_barrier-requires c =
    let a = c.args in
    let right = let_through _ c.rows.ensures (ap code_of c.in_default.is) in
    let small = small_dims (cone_at a.lent.now.cone) right.cone in
    let same =
    same_4 (a.lent.now.cone.dim1 + a.lent.now.cone.dim2) (length a.z.now) (length a.s.now) (length a.dz.now) (length a.ds.now) right.length in
    (omega (arith, same.1, small.0, small.1), omega (arith, same.0, small.0, small.1))

pub returns : goal.returns
unfolding compute_barrier_of
returns c =
    let finite = both c.sides_finite.ensures c.is_finite.ensures in
    through _ _ _ _ (own-numbers _ _ _ _ _ c.rows.ensures finite) (ap code_of c.in_default.is)
    (c.finished.ensures ∙ ap number_of c.compute_barrier.ensures)
