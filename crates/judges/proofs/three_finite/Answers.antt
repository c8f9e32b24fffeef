-- `three_finite` joins the judgements of its four parts. Assumes nothing.
use Rattle.judges.specs.Judges.{three_finite}
use Rattle.judges.proofs.three_finite.Goals as goal

pub returns : goal.returns
unfolding three_finite
returns c = simp (c.all_finite.ensures, c.all_finite-2.ensures, c.all_finite-3.ensures, c.all_finite-4.ensures)
