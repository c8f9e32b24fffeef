-- A call that its rows refuse leaves with their number, one that they let through with the finished barrier. Assumes nothing.
use mathlib.Core.Path.{◌∙◌, ap, refl}
use Prim.Native.Nat.{◌+◌}
use native.Mathlib.Omega.{arith}
use lib.ListN.{length}
use Rattle.judges.specs.Refusals.{number_of}
use Rattle.cone.specs.Lent.{cone_at}
use Rattle.cone.specs.table.Table.{code_of}
use Rattle.cone.proofs.table.Settled.{refused_by, through}
use Rattle.judges.proofs.Lengths.{same_1}
use Rattle.call_record.specs.wide_primal.Entries.{barrier_primal_of}
use Rattle.call_record.proofs.wide_rows.Judging.{small_dims}
use Rattle.call_record.proofs.Judging.{let_through, own-numbers}
use borrow.Author.Rules.{rules}
use Rattle.call_record.proofs.wide_primal.barrier_primal.Goals as goal

pub returns-in-Err : goal.returns-in-Err
unfolding barrier_primal_of
returns-in-Err c =
    simp c.refused.ensures (refused_by _ _ _ _ _ _ (own-numbers _ _ _ _ _ c.rows.ensures c.all_finite-finite.ensures) c.in-Err.is refl)

pub barrier_primal-requires : goal.barrier_primal-requires
barrier_primal-requires c =
    let a = c.args in
    let right = let_through _ c.rows.ensures (ap code_of c.in_default.is) in
    let small = small_dims (cone_at a.lent.now.cone) right.cone in
    omega (arith, same_1 (a.lent.now.cone.dim1 + a.lent.now.cone.dim2) (length a.s.now) right.length, small.0, small.1)

pub returns : goal.returns
unfolding barrier_primal_of
returns c =
    through _ _ _ _ (own-numbers _ _ _ _ _ c.rows.ensures c.all_finite-finite.ensures) (ap code_of c.in_default.is)
    (c.finished.ensures ∙ ap number_of c.barrier_primal.ensures)
