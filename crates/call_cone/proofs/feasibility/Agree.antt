-- 01: "For each, show that any two outcomes allowed by it agree". Every contract here is one equation. Assumes nothing.
use mathlib.Core.Path.{◌∙◌, sym}
use Rattle.arith.specs.Outcomes.{OneAnswer}
use Rattle.call_cone.proofs.feasibility.is_primal_feasible.Reads as is_primal_feasible
use Rattle.call_cone.proofs.feasibility.is_dual_feasible.Reads as is_dual_feasible

pub is_primal_feasible_agrees : OneAnswer is_primal_feasible.Post
is_primal_feasible_agrees κs a x y s t p q = p ∙ sym q

pub is_dual_feasible_agrees : OneAnswer is_dual_feasible.Post
is_dual_feasible_agrees κs a x y s t p q = p ∙ sym q
