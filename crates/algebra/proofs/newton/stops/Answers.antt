-- `stops` meets its contract: the definition's text, with two sizes. Assumes nothing.
use Rattle.algebra.specs.newton.Rounds.{stops_of}
use Rattle.algebra.proofs.newton.stops.Goals as goal

pub returns : goal.returns
unfolding stops_of
returns c = rw (c.abs-2.ensures, c.abs.ensures)
