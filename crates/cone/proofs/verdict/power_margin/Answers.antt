-- `power_margin` computes as its definition does. Assumes nothing.
use mathlib.Core.Path.{refl}
use Rattle.cone.specs.verdict.Margins.{power_margin}
use Rattle.cone.proofs.verdict.power_margin.Goals as goal

pub returns : goal.returns
unfolding power_margin
returns c = refl
