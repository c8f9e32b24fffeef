-- A call that its rows refuse leaves with their number, one that they let through publishes the product. Assumes nothing.
use mathlib.Core.Path.{◌≡◌, refl}
use Prim.Native.Nat.{◌+◌, ◌≤◌}
use native.Mathlib.Omega.{arith}
use lib.ListN.{length}
use Rattle.cone.specs.Lent.{cone_at}
use Rattle.std.proofs.lemmas.Result.{err_from_is_err_and}
use Rattle.cone.proofs.table.Settled.{number_above_0, refused, through}
use Rattle.judges.proofs.Lengths.{same_2}
use Rattle.genpowcone.specs.Rank3 as genRank3
use Rattle.call_record.specs.wide.Entries.{mul_hs_of}
use Rattle.call_record.proofs.wide_rows.Judging.{small_dims}
use Rattle.call_record.proofs.Judging.{let_through, own-numbers}
use borrow.Author.Rules.{rules}
use Rattle.call_record.proofs.wide_kind.mul_hs.Goals as goal

pub returns-in_err-rows : goal.returns-in_err-rows
unfolding mul_hs_of
returns-in_err-rows c =
    let p = err_from_is_err_and c.from_residual.result c.from_residual.ensures.1 in
    rw (p.1, p.2) (refused _ _ _ _ (own-numbers _ _ _ _ _ c.in_err-rows.ensures c.all_finite-finite.ensures) (number_above_0 _))

pub mul_hs-product-requires : goal.mul_hs-product-requires
mul_hs-product-requires c =
    let a = c.args in
    let right = let_through _ c.in_ok-rows.ensures refl in
    let small = small_dims (cone_at a.lent.now.cone) right.cone in
    let sized = same_2 (a.lent.now.cone.dim1 + a.lent.now.cone.dim2) (length a.y.now) (length a.x.now) right.length in
    (small.0, omega (arith, sized.1, small.1))

pub publish_wide-requires : goal.publish_wide-requires
publish_wide-requires c =
    let a = c.args in
    let right = let_through _ c.in_ok-rows.ensures refl in
    let small = small_dims (cone_at a.lent.now.cone) right.cone in
    omega (arith, (same_2 (a.lent.now.cone.dim1 + a.lent.now.cone.dim2) (length a.y.now) (length a.x.now) right.length).0, small.0, small.1)

pub returns : goal.returns
unfolding mul_hs_of genRank3.mul_hs_of
returns c =
    through _ _ _ _ (own-numbers _ _ _ _ _ c.in_ok-rows.ensures c.all_finite-finite.ensures) refl
    (simp (← c.mul_hs-product.ensures) c.publish_wide.ensures)
