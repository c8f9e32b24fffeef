-- `dim` meets its contract: one test, each way. Assumes nothing.
use mathlib.Core.Path.{◌∙◌, sym}
use Rattle.trace.proofs.places.dim.Goals as goal

pub returns-then-own_dims : goal.returns-then-own_dims
returns-then-own_dims c = rw (sym c.own_dims.ensures ∙ c.if-own_dims.true)

pub returns-else-own_dims : goal.returns-else-own_dims
returns-else-own_dims c = rw (sym c.own_dims.ensures ∙ c.if-own_dims.false)
