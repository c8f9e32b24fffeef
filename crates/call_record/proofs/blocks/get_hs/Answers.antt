-- A call that its rows refuse leaves with their number, one that they let through publishes the block. Assumes nothing.
use mathlib.Core.Path.{refl}
use native.Mathlib.Omega.{arith}
use lib.ListN.{length}
use Rattle.std.proofs.lemmas.Result.{err_from_is_err_and}
use Rattle.cone.proofs.table.Settled.{number_above_0, refused, through}
use Rattle.judges.proofs.Lengths.{same_1}
use Rattle.call_record.specs.blocks.Blocks.{get_hs_of}
use Rattle.call_record.proofs.Judging.{let_through}
use borrow.Author.Rules.{rules}
use Rattle.call_record.proofs.blocks.get_hs.Goals as goal

pub returns-in_err-rows : goal.returns-in_err-rows
unfolding get_hs_of
returns-in_err-rows c =
    let p = err_from_is_err_and c.from_residual.result c.from_residual.ensures.1 in
    rw (p.1, p.2) (refused _ _ _ _ c.in_err-rows.ensures (number_above_0 _))

pub publish-requires : goal.publish-requires
publish-requires c =
    let right = (let_through _ c.in_ok-rows.ensures refl).length in
    omega (arith, same_1 6 (length c.args.block.now) right)

pub returns : goal.returns
unfolding get_hs_of
returns c =
    through _ _ _ _ c.in_ok-rows.ensures refl c.publish.ensures
