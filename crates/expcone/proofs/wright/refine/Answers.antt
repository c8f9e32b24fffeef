-- `refine` meets its contract: it is the definition's text. Assumes nothing.
use mathlib.Core.Path.{refl}
use Rattle.expcone.specs.wright.Omega.{refine_of}
use Rattle.expcone.proofs.wright.refine.Goals as goal

pub returns : goal.returns
unfolding refine_of
returns c = refl
