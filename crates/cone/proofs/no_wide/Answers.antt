-- `no_wide` makes the record of its definition. Assumes nothing.
use mathlib.Core.Path.{refl}
use Rattle.cone.specs.Fresh.{no_wide}
use Rattle.cone.proofs.no_wide.Goals as goal

pub returns : goal.returns
unfolding no_wide
returns c = refl
