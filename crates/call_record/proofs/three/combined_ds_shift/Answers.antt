-- A call that its rows refuse leaves with their number, one that they let through publishes the shift. Assumes nothing.
use mathlib.Core.Path.{refl}
use native.Mathlib.Omega.{arith}
use lib.ListN.{length}
use Rattle.std.proofs.lemmas.Result.{err_from_is_err_and}
use Rattle.cone.proofs.table.Settled.{both, number_above_0, refused, through}
use Rattle.judges.proofs.Lengths.{same_3}
use Rattle.call_record.specs.three.Entries.{combined_ds_shift_of}
use Rattle.call_record.proofs.Judging.{let_through, own-numbers}
use borrow.Author.Rules.{rules}
use Rattle.call_record.proofs.three.combined_ds_shift.Goals as goal

pub returns-in_err-rows : goal.returns-in_err-rows
unfolding combined_ds_shift_of
returns-in_err-rows c =
    let points = both c.all_finite.ensures c.all_finite-2.ensures in
    let p = err_from_is_err_and c.from_residual.result c.from_residual.ensures.1 in
    rw (p.1, p.2) (refused _ _ _ _ (own-numbers _ _ _ _ _ c.in_err-rows.ensures (both points c.is_finite.ensures)) (number_above_0 _))

pub publish-requires : goal.publish-requires
publish-requires c =
    let a = c.args in
    let right = (let_through _ c.in_ok-rows.ensures refl).length in
    omega (arith, (same_3 3 (length a.shifted.now) (length a.stepz.now) (length a.steps.now) right).0)

pub returns : goal.returns
unfolding combined_ds_shift_of
returns c =
    let points = both c.all_finite.ensures c.all_finite-2.ensures in
    through _ _ _ _
    (own-numbers _ _ _ _ _ c.in_ok-rows.ensures (both points c.is_finite.ensures))
    refl
    (simp (← c.three_of.ensures, ← c.three_of-2.ensures, ← c.combined_ds_shift-ans.ensures)
    c.publish.ensures)
