-- `fresh` puts the two empty parts beside the cone. Assumes nothing.
use Rattle.cone.specs.Fresh.{fresh_of}
use Rattle.cone.proofs.fresh.Goals as goal

pub returns : goal.returns
unfolding fresh_of
returns c = simp (c.no_three-three.ensures, c.no_wide-wide.ensures)
