-- A call that its rows refuse leaves with their number, one that they let through publishes the product. Assumes nothing.
use mathlib.Core.Path.{refl}
use native.Mathlib.Omega.{arith}
use lib.ListN.{length}
use Rattle.std.proofs.lemmas.Result.{err_from_is_err_and}
use Rattle.cone.proofs.table.Settled.{number_above_0, refused, through}
use Rattle.judges.proofs.Lengths.{same_2}
use Rattle.call_record.specs.blocks.Blocks.{mul_hs_of}
use Rattle.call_record.proofs.Judging.{let_through, own-numbers}
use borrow.Author.Rules.{rules}
use Rattle.call_record.proofs.blocks.mul_hs.Goals as goal

pub returns-in_err-rows : goal.returns-in_err-rows
unfolding mul_hs_of
returns-in_err-rows c =
    let p = err_from_is_err_and c.from_residual.result c.from_residual.ensures.1 in
    rw (p.1, p.2) (refused _ _ _ _ (own-numbers _ _ _ _ _ c.in_err-rows.ensures c.all_finite.ensures) (number_above_0 _))

pub publish-requires : goal.publish-requires
publish-requires c =
    let a = c.args in
    let right = (let_through _ c.in_ok-rows.ensures refl).length in
    omega (arith, (same_2 3 (length a.y.now) (length a.x.now) right).0)

pub returns : goal.returns
unfolding mul_hs_of
returns c =
    through _ _ _ _ (own-numbers _ _ _ _ _ c.in_ok-rows.ensures c.all_finite.ensures) refl
    (simp (← c.three_of.ensures, ← c.mul-product.ensures) c.publish.ensures)
