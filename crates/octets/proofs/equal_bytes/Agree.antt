-- 01: "For each, show that any two outcomes allowed by it agree". Assumes nothing.
use mathlib.Core.Path.{sym, ◌∙◌}
use Rattle.arith.specs.Outcomes.{OneAnswer}
use Rattle.octets.proofs.equal_bytes.number_of.Reads as number_of_lem
use Rattle.octets.proofs.equal_bytes.same.Reads as same

pub number_of_agrees : OneAnswer number_of_lem.Post
number_of_agrees κs a x y s t p q = p ∙ sym q

pub same_agrees : OneAnswer same.Post
same_agrees κs a x y s t p q = p ∙ sym q
