-- `settings_finite` joins the judgements of the three numbers. Assumes nothing.
use Rattle.judges.proofs.settings_finite.Goals as goal

pub returns : goal.returns
returns c = simp (c.is_finite.ensures, c.is_finite-2.ensures, c.is_finite-3.ensures)
