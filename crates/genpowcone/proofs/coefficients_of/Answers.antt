-- `coefficients_of` is its definition: the three roots are replaced by what they promise. Assumes nothing.
use Rattle.genpowcone.specs.Rank3.{coefficients_of}
use Rattle.genpowcone.proofs.coefficients_of.Goals as goal

pub returns : goal.returns
unfolding coefficients_of
returns c = rw (c.sqrt-r1.ensures, c.sqrt-q0.ensures, c.sqrt-p0.ensures)
