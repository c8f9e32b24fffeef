-- `update_hs` meets its contract: the strategy, the primal gradient and the tests pick the definition's branches, one after the other.
-- Assumes nothing.
use mathlib.Core.Path.{sym, ◌∙◌}
use borrow.Author.Tests.{eq-eqb, ne_eqb}
use Rattle.scaling.specs.Scalings.{chosen, update_hs_of}
use Rattle.scaling.proofs.update_hs.Goals as goal

pub returns-then-strategy-eq-DUAL : goal.returns-then-strategy-eq-DUAL
unfolding update_hs_of
returns-then-strategy-eq-DUAL c = rw (eq-eqb _ _ c.if-strategy-eq-DUAL.true, ← c.use_dual_scaling.ensures)

pub returns-in_err-primal : goal.returns-in_err-primal
unfolding update_hs_of
returns-in_err-primal c =
    rw (ne_eqb _ _ c.if-strategy-eq-DUAL.false, ← c.gradient_primal.ensures, c.in_err-primal.was) c.from_residual.ensures

pub returns-then-is_apart : goal.returns-then-is_apart
unfolding update_hs_of chosen
returns-then-is_apart c =
    rw (
      ne_eqb _ _ c.if-strategy-eq-DUAL.false,
      ← c.gradient_primal.ensures,
      c.in_ok-primal.was,
      ← c.measure-m.ensures,
      sym c.is_apart.ensures ∙ c.if-is_apart.true,
      ← c.use_primal_dual_scaling.ensures,
    )

pub returns : goal.returns
unfolding update_hs_of chosen
returns c =
    rw (
      ne_eqb _ _ c.if-strategy-eq-DUAL.false,
      ← c.gradient_primal.ensures,
      c.in_ok-primal.was,
      ← c.measure-m.ensures,
      sym c.is_apart.ensures ∙ c.if-is_apart.false,
      ← c.use_dual_scaling-2.ensures,
    )
