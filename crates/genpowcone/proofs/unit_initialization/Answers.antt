-- `unit_initialization` is its definition: the head's loop, over places that are +0. Assumes nothing.
use Rattle.genpowcone.specs.PrimalGradient.{unit_initialization_of}
use Rattle.genpowcone.proofs.unit_initialization.Goals as goal

pub returns : goal.returns
unfolding unit_initialization_of
returns c = c.unit_head.ensures
