-- `low` meets its contract: each partial product fits, and what falls away counts multiples of 2^64. Assumes nothing.
use Rattle.std.proofs.Common.{◌∙◌}
use Rattle.wide.proofs.PartialProducts.{lower_products}
use Rattle.wide.proofs.low.Goals as goal

pub returns : goal.returns
returns c = c.wrapping_add_u64.ensures.value ∙ lower_products c.args.a c.args.b
