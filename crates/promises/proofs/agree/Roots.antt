-- 01: "For each, show that any two outcomes allowed by it agree": of the two square roots that are exported by name. Assumes nothing.
use mathlib.Core.Path.{◌∙◌, sym}
use Rattle.arith.specs.Outcomes.{OneAnswer}
use Rattle.spindle.proofs.spindle_plain_sqrt.Reads as plain_sqrt
use Rattle.spindle.proofs.spindle_table_sqrt.Reads as table_sqrt

pub plain_sqrt_agrees : OneAnswer plain_sqrt.Post
plain_sqrt_agrees κs a x y s t p q = p ∙ sym q

pub table_sqrt_agrees : OneAnswer table_sqrt.Post
table_sqrt_agrees κs a x y s t p q = p ∙ sym q
