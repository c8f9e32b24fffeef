-- `taylor_start` meets its contract: it is the definition's text. Assumes nothing.
use mathlib.Core.Path.{refl}
use Rattle.expcone.specs.wright.Omega.{taylor_start}
use Rattle.expcone.proofs.wright.taylor_start.Goals as goal

pub returns : goal.returns
unfolding taylor_start
returns c = refl
