-- A call that its rows refuse leaves with their number, one that they let through publishes the correction. Assumes nothing.
use mathlib.Core.Path.{refl}
use native.Mathlib.Omega.{arith}
use lib.ListN.{length}
use Rattle.std.proofs.lemmas.Result.{err_from_is_err_and}
use Rattle.cone.proofs.table.Settled.{both, number_above_0, refused, through}
use Rattle.judges.proofs.Lengths.{same_3}
use Rattle.call_record.specs.three.Entries.{higher_correction_of}
use Rattle.call_record.proofs.Judging.{let_through, own-numbers}
use borrow.Author.Rules.{rules}
use Rattle.call_record.proofs.three.higher_correction.Goals as goal

pub returns-in_err-rows : goal.returns-in_err-rows
unfolding higher_correction_of
returns-in_err-rows c =
    let numbers = both c.all_finite.ensures c.all_finite-2.ensures in
    let p = err_from_is_err_and c.from_residual.result c.from_residual.ensures.1 in
    rw (p.1, p.2) (refused _ _ _ _ (own-numbers _ _ _ _ _ c.in_err-rows.ensures numbers) (number_above_0 _))

pub publish-requires : goal.publish-requires
publish-requires c =
    let a = c.args in
    let right = (let_through _ c.in_ok-rows.ensures refl).length in
    omega (arith, (same_3 3 (length a.eta.now) (length a.ds.now) (length a.v.now) right).0)

pub returns : goal.returns
unfolding higher_correction_of
returns c =
    let numbers = both c.all_finite.ensures c.all_finite-2.ensures in
    through _ _ _ _ (own-numbers _ _ _ _ _ c.in_ok-rows.ensures numbers) refl
    (simp (← c.three_of.ensures, ← c.three_of-2.ensures, ← c.higher_correction-ans.ensures)
    c.publish.ensures)
