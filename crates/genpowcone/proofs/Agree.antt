-- 01: "For each, show that any two outcomes allowed by it agree". Every contract here is one equation. Assumes nothing.
use Rattle.std.proofs.Common.{sym, ◌∙◌}
use Rattle.arith.specs.Outcomes.{OneAnswer}
use Rattle.genpowcone.proofs.unit_initialization.Reads as unit_initialization
use Rattle.genpowcone.proofs.get_hs.Reads as get_hs
use Rattle.genpowcone.proofs.mul_hs.Reads as mul_hs
use Rattle.genpowcone.proofs.compute_barrier.Reads as compute_barrier
use Rattle.genpowcone.proofs.is_primal_feasible.Reads as is_primal_feasible
use Rattle.genpowcone.proofs.is_dual_feasible.Reads as is_dual_feasible
use Rattle.genpowcone.proofs.barrier_primal.Reads as barrier_primal
use Rattle.genpowcone.proofs.barrier_dual.Reads as barrier_dual
use Rattle.genpowcone.proofs.update_dual_grad_h.Reads as update_dual_grad_h
use Rattle.genpowcone.proofs.gradient_primal.Reads as gradient_primal

pub unit_initialization_agrees : OneAnswer unit_initialization.Post
unit_initialization_agrees κs a x y s t p q = p ∙ sym q

pub get_hs_agrees : OneAnswer get_hs.Post
get_hs_agrees κs a x y s t p q = p ∙ sym q

pub mul_hs_agrees : OneAnswer mul_hs.Post
mul_hs_agrees κs a x y s t p q = p ∙ sym q

pub compute_barrier_agrees : OneAnswer compute_barrier.Post
compute_barrier_agrees κs a x y s t p q = p ∙ sym q

pub is_primal_feasible_agrees : OneAnswer is_primal_feasible.Post
is_primal_feasible_agrees κs a x y s t p q = p ∙ sym q

pub is_dual_feasible_agrees : OneAnswer is_dual_feasible.Post
is_dual_feasible_agrees κs a x y s t p q = p ∙ sym q

pub barrier_primal_agrees : OneAnswer barrier_primal.Post
barrier_primal_agrees κs a x y s t p q = p ∙ sym q

pub barrier_dual_agrees : OneAnswer barrier_dual.Post
barrier_dual_agrees κs a x y s t p q = p ∙ sym q

pub update_dual_grad_h_agrees : OneAnswer update_dual_grad_h.Post
update_dual_grad_h_agrees κs a x y s t p q = p ∙ sym q

pub gradient_primal_agrees : OneAnswer gradient_primal.Post
gradient_primal_agrees κs a x y s t p q = p ∙ sym q
