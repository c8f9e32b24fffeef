-- A call that its rows refuse leaves with their number, one that they let through publishes the diagonal. Assumes nothing.
use mathlib.Core.Path.{refl}
use Prim.Native.Nat.{◌+◌}
use native.Mathlib.Omega.{arith}
use lib.ListN.{length}
use Rattle.cone.specs.Lent.{cone_at}
use Rattle.std.proofs.lemmas.Result.{err_from_is_err_and}
use Rattle.cone.proofs.table.Settled.{number_above_0, refused, through}
use Rattle.judges.proofs.Lengths.{same_1}
use Rattle.call_record.specs.wide.Entries.{get_hs_of}
use Rattle.call_record.proofs.wide_rows.Judging.{small_dims}
use Rattle.call_record.proofs.Judging.{let_through}
use borrow.Author.Rules.{rules}
use Rattle.call_record.proofs.wide_kind.get_hs.Goals as goal

pub returns-in_err-rows : goal.returns-in_err-rows
unfolding get_hs_of
returns-in_err-rows c =
    let p = err_from_is_err_and c.from_residual.result c.from_residual.ensures.1 in
    rw (p.1, p.2) (refused _ _ _ _ c.in_err-rows.ensures (number_above_0 _))

pub get_hs-diagonal-requires : goal.get_hs-diagonal-requires
get_hs-diagonal-requires c =
    let a = c.args in
    small_dims (cone_at a.lent.now.cone) (let_through _ c.in_ok-rows.ensures refl).cone

pub publish_wide-requires : goal.publish_wide-requires
publish_wide-requires c =
    let a = c.args in
    let right = let_through _ c.in_ok-rows.ensures refl in
    let small = small_dims (cone_at a.lent.now.cone) right.cone in
    omega (arith, same_1 (a.lent.now.cone.dim1 + a.lent.now.cone.dim2) (length a.block.now) right.length, small.0, small.1)

pub returns : goal.returns
unfolding get_hs_of
returns c =
    through _ _ _ _ c.in_ok-rows.ensures refl
    (simp (← c.get_hs-diagonal.ensures) c.publish_wide.ensures)
