-- `dims_ok` meets its contract, by cases. Assumes nothing.
use mathlib.Core.Path.{◌∙◌, sym}
use Rattle.trace_layout.specs.Records.{dims_ok}
use Rattle.trace_layout.proofs.pieces.layout.dims_ok.Goals as goal

pub returns-then-own_dims : goal.returns-then-own_dims
unfolding dims_ok
returns-then-own_dims c = simp (sym c.own_dims.ensures ∙ c.if-own_dims.true)

pub returns-else-own_dims : goal.returns-else-own_dims
unfolding dims_ok
returns-else-own_dims c = simp (sym c.own_dims.ensures ∙ c.if-own_dims.false)
