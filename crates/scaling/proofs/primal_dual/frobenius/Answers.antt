-- `frobenius` meets its contract: the definition's text, with the products that it calls for. Assumes nothing.
use Rattle.scaling.specs.primal_dual.Block.{frobenius_of}
use Rattle.scaling.proofs.primal_dual.frobenius.Goals as goal

pub returns : goal.returns
unfolding frobenius_of
returns c =
    rw (
      c.norm_fro.ensures,
      c.rest-w.ensures,
      c.outer-tt.ensures,
      c.outer-ss.ensures,
      c.less-tmp.ensures,
      c.mul-hzt.ensures,
    )
