-- `f64_at` meets its contract: the double of the pattern that stands there. Assumes nothing.
use lib.Ieee.{binary64, of_bits}
use mathlib.Core.Path.{◌∙◌, ap}
use Rattle.trace.proofs.value.f64_at.Goals as goal

pub returns : goal.returns
returns c = c.of_bits.ensures ∙ ap (of_bits binary64) c.u64_at.ensures
