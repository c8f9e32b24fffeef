-- `unit_initialization` meets its contract: it is the definition's text. Assumes nothing.
use mathlib.Core.Path.{refl}
use Rattle.expcone.specs.PrimalGradient.{unit_initialization_of}
use Rattle.expcone.proofs.unit_initialization.Goals as goal

pub returns : goal.returns
unfolding unit_initialization_of
returns c = refl
