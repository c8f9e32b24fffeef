-- 01: "For each, show that any two outcomes allowed by it agree". Every contract here is one equation. Assumes nothing.
use Rattle.std.proofs.Common.{sym, ◌∙◌}
use Rattle.arith.specs.Outcomes.{OneAnswer}
use Rattle.exponential.proofs.exp.Reads as exp

pub exp_agrees : OneAnswer exp.Post
exp_agrees κs a x y s t p q = p ∙ sym q
