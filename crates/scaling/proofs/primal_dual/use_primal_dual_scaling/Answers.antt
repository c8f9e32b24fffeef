-- `use_primal_dual_scaling` meets its contract: the definition's text, with the products that it calls for. Assumes nothing.
use Rattle.scaling.specs.primal_dual.Block.{primal_dual_block}
use Rattle.scaling.proofs.primal_dual.use_primal_dual_scaling.Goals as goal

pub returns : goal.returns
unfolding primal_dual_block
returns c =
    rw (
      c.sum_of.ensures,
      c.outer-aa.ensures,
      c.outer-dd.ensures,
      c.outer-ss.ensures,
      c.axis_of-axis.ensures,
      c.frobenius-t.ensures,
    )
