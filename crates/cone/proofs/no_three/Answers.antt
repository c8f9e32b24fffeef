-- `no_three` makes the record of its definition. Assumes nothing.
use mathlib.Core.Path.{refl}
use Rattle.cone.specs.Fresh.{no_three}
use Rattle.cone.proofs.no_three.Goals as goal

pub returns : goal.returns
unfolding no_three
returns c = refl
