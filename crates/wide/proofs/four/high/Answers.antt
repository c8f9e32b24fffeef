-- `four::high` meets its contract: it is the upper half of `four::product`. Assumes nothing.
use Rattle.std.proofs.Common.{ap}
use Rattle.wide.specs.declared.Halves.{Halves}
use Rattle.wide.specs.Products.{product_of}
use Rattle.wide.proofs.four.high.Goals as goal

pub returns : goal.returns
unfolding product_of
returns c = ap (λ (r : Halves). r.hi) c.product.ensures
