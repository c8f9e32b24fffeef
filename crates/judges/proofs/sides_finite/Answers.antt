-- `sides_finite` joins the judgements of the four slices. Assumes nothing.
use Rattle.judges.proofs.sides_finite.Goals as goal

pub returns : goal.returns
returns c =
    let second = c.before.before in
    simp (second.all_finite.ensures, second.all_finite-2.ensures, c.all_finite-3.ensures, c.all_finite-4.ensures)
