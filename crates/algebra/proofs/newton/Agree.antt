-- 01: "For each, show that any two outcomes allowed by it agree". Every contract here is one equation. Assumes nothing.
use Rattle.std.proofs.Common.{sym, ◌∙◌}
use Rattle.arith.specs.Outcomes.{OneAnswer}
use Rattle.algebra.proofs.newton.newton_raphson_onesided.Reads as newton_raphson_onesided

pub newton_raphson_onesided_agrees : OneAnswer newton_raphson_onesided.Post
newton_raphson_onesided_agrees κs a x y s t p q = p ∙ sym q
