-- A call that its rows refuse leaves with their number, one that they let through publishes the gradient with its count. Assumes nothing.
use mathlib.Core.Path.{refl, ap}
use Prim.Native.Nat.{◌+◌, ◌≤◌}
use native.Mathlib.Omega.{arith}
use lib.ListN.{length, take}
use Rattle.judges.specs.Refusals.{publish_of}
use Rattle.cone.specs.Lent.{cone_at}
use Rattle.cone.specs.table.Table.{code_of}
use Rattle.cone.proofs.table.Settled.{refused_by, through}
use Rattle.judges.proofs.Outcomes.{with-count}
use Rattle.judges.proofs.Lengths.{same_2}
use Rattle.call_record.specs.wide_primal.Entries.{gradient_primal_of}
use Rattle.call_record.proofs.wide_rows.Judging.{small_dims}
use Rattle.call_record.proofs.Judging.{let_through, own-numbers}
use borrow.Author.Rules.{rules}
use Rattle.call_record.proofs.wide_primal.gradient_primal.Goals as goal

pub returns-in-Err : goal.returns-in-Err
unfolding gradient_primal_of
returns-in-Err c =
    simp c.refused.ensures (refused_by _ _ _ _ _ _ (own-numbers _ _ _ _ _ c.rows.ensures c.all_finite-finite.ensures) c.in-Err.is refl)

-- both slices have as many places as the point, at most 64
pub gradient_primal-a-requires : goal.gradient_primal-a-requires
gradient_primal-a-requires c =
    let a = c.args in
    let right = let_through _ c.rows.ensures (ap code_of c.in_default.is) in
    let small = small_dims (cone_at a.lent.now.cone) right.cone in
    omega (arith, (same_2 (a.lent.now.cone.dim1 + a.lent.now.cone.dim2) (length a.g.now) (length a.s.now) right.length).1, small.0, small.1)

pub publish_wide-published-requires : goal.publish_wide-published-requires
publish_wide-published-requires c =
    let a = c.args in
    let right = let_through _ c.rows.ensures (ap code_of c.in_default.is) in
    let small = small_dims (cone_at a.lent.now.cone) right.cone in
    omega (arith, (same_2 (a.lent.now.cone.dim1 + a.lent.now.cone.dim2) (length a.g.now) (length a.s.now) right.length).0, small.0, small.1)

pub returns : goal.returns
unfolding gradient_primal_of
returns c =
    let old = c.args.g.now in
    let a = c.gradient_primal-a.result in
    through _ _ _ _ (own-numbers _ _ _ _ _ c.rows.ensures c.all_finite-finite.ensures) (ap code_of c.in_default.is)
    (simp (← c.gradient_primal-a.ensures)
    (with-count (publish_of old (take (length old) a.g)) a.rounds c.publish_wide-published.ensures c.counted.ensures))
