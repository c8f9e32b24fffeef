-- `unit_initialization` is its definition. Assumes nothing.
use Rattle.powcone.specs.PrimalGradient.{unit_initialization_of}
use Rattle.powcone.proofs.unit_initialization.Goals as goal

pub returns : goal.returns
unfolding unit_initialization_of
returns c = rw (c.sqrt-s1.ensures, c.sqrt-s0.ensures)
