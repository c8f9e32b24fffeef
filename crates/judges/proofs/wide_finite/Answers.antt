-- `wide_finite` joins the judgements of its eight parts. Assumes nothing.
use Rattle.judges.specs.Judges.{wide_finite}
use Rattle.cone.proofs.table.Settled.{both}
use Rattle.judges.proofs.wide_finite.Goals as goal
use Rattle.judges.proofs.wide_finite.Goals.{After-head_finite, After-head_finite-2, After-head_finite-3, After-head_finite-4, After-head_finite-5, After-head_finite-6, After-is_finite, After-is_finite-2}

-- where each part is judged, the last first
abbrev at_d1 : After-is_finite-2 → After-head_finite-6
at_d1 c = c.before

abbrev at-r : After-is_finite-2 → After-head_finite-5
at-r c = (at_d1 c).before.before

abbrev at-q : After-is_finite-2 → After-head_finite-4
at-q c = (at-r c).before.before

abbrev at_p : After-is_finite-2 → After-head_finite-3
at_p c = (at-q c).before.before

abbrev at_grad : After-is_finite-2 → After-head_finite-2
at_grad c = (at_p c).before.before

abbrev at_mu : After-is_finite-2 → After-is_finite
at_mu c = (at_grad c).before.before

abbrev at_z : After-is_finite-2 → After-head_finite
at_z c = (at_mu c).before

pub returns : goal.returns
unfolding wide_finite
returns c =
    let front = both (both (at_z c).head_finite.ensures (at_mu c).is_finite.ensures) (at_grad c).head_finite-2.ensures in
    let middle = both (both front (at_p c).head_finite-3.ensures) (at-q c).head_finite-4.ensures in
    both (both (both middle (at-r c).head_finite-5.ensures) (at_d1 c).head_finite-6.ensures) c.is_finite-2.ensures
