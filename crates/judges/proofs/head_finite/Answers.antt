-- `head_finite` judges the head of the slice. Assumes nothing.
use mathlib.Core.Path.{◌∙◌, ap}
use lib.Ieee.Scale.{finite}
use Rattle.judges.specs.Judges.{all_of}
use Rattle.judges.proofs.head_finite.Goals as goal

pub returns : goal.returns
returns c = c.all_finite.ensures ∙ ap (all_of finite) c.head.ensures
