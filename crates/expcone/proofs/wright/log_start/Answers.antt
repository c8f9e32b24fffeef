-- `log_start` meets its contract: it is the definition's text. Assumes nothing.
use mathlib.Core.Path.{refl}
use Rattle.expcone.specs.wright.Omega.{log_start}
use Rattle.expcone.proofs.wright.log_start.Goals as goal

pub returns : goal.returns
unfolding log_start
returns c = refl
