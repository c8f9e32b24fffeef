-- `four::product` meets its contract: each partial product leaves room for the digits that are added to it, and together they are the
-- product. Assumes nothing.
use Rattle.std.proofs.Common.{arith}
use Rattle.wide.proofs.PartialProducts.{four_products}
use Rattle.wide.proofs.Products.{halves_of_product}
use Rattle.wide.proofs.four.product.Goals as goal

pub returns : goal.returns
returns c = halves_of_product c.args.a c.args.b _ _ (omega arith) (four_products c.args.a c.args.b)
