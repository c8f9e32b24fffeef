-- `exponents` meets its contract, by cases. Assumes nothing.
use mathlib.Core.Path.{◌∙◌, sym}
use borrow.Author.Tests.{eq-eqb, ne_eqb}
use Rattle.trace_layout.specs.Records.{exponents}
use Rattle.trace_layout.proofs.pieces.layout.exponents.Goals as goal

pub returns-then-own_dims : goal.returns-then-own_dims
unfolding exponents
returns-then-own_dims c = simp (sym c.own_dims.ensures ∙ c.if-own_dims.true)

pub returns-then-kind-eq2 : goal.returns-then-kind-eq2
unfolding exponents
returns-then-kind-eq2 c =
    simp (sym c.own_dims.ensures ∙ c.if-own_dims.false, eq-eqb _ _ c.if-kind-eq2.true)

pub returns-else-kind-eq2 : goal.returns-else-kind-eq2
unfolding exponents
returns-else-kind-eq2 c =
    simp (sym c.own_dims.ensures ∙ c.if-own_dims.false, ne_eqb _ _ c.if-kind-eq2.false)
