-- 01: "For each, show that any two outcomes allowed by it agree". Every contract here is one equation. Assumes nothing.
use Rattle.std.proofs.Common.{sym, ◌∙◌}
use Rattle.arith.specs.Outcomes.{OneAnswer}
use Rattle.wide.proofs.product.Reads as product
use Rattle.wide.proofs.high.Reads as high
use Rattle.wide.proofs.low.Reads as low
use Rattle.wide.proofs.left.Reads as left
use Rattle.wide.proofs.four.product.Reads as four_product
use Rattle.wide.proofs.four.high.Reads as four_high

pub product_agrees : OneAnswer product.Post
product_agrees κs a x y s t p q = p ∙ sym q

pub high_agrees : OneAnswer high.Post
high_agrees κs a x y s t p q = p ∙ sym q

pub low_agrees : OneAnswer low.Post
low_agrees κs a x y s t p q = p ∙ sym q

pub left_agrees : OneAnswer left.Post
left_agrees κs a x y s t p q = p ∙ sym q

pub four_product_agrees : OneAnswer four_product.Post
four_product_agrees κs a x y s t p q = p ∙ sym q

pub four_high_agrees : OneAnswer four_high.Post
four_high_agrees κs a x y s t p q = p ∙ sym q
