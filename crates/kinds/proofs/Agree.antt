-- 01: "For each, show that any two outcomes allowed by it agree". Every contract here is one equation. Assumes nothing.
use mathlib.Core.Path.{◌∙◌, sym}
use Rattle.arith.specs.Outcomes.{OneAnswer}
use Rattle.kinds.proofs.used.Reads as used
use Rattle.kinds.proofs.answer.Reads as answer
use Rattle.kinds.proofs.passes.Reads as passes
use Rattle.kinds.proofs.barrier_dual.Reads as barrier_dual
use Rattle.kinds.proofs.dual_grad_h.Reads as dual_grad_h
use Rattle.kinds.proofs.three.unit_initialization.Reads as three_unit_initialization
use Rattle.kinds.proofs.three.update_dual_grad_h.Reads as three_update_dual_grad_h
use Rattle.kinds.proofs.three.gradient_primal.Reads as three_gradient_primal
use Rattle.kinds.proofs.three.barrier_primal.Reads as three_barrier_primal
use Rattle.kinds.proofs.three.compute_barrier.Reads as three_compute_barrier
use Rattle.kinds.proofs.three.higher_correction.Reads as three_higher_correction
use Rattle.kinds.proofs.three.combined_ds_shift.Reads as three_combined_ds_shift
use Rattle.kinds.proofs.wide_kind.unit_initialization.Reads as wide_unit_initialization
use Rattle.kinds.proofs.wide_kind.gradient_primal.Reads as wide_gradient_primal
use Rattle.kinds.proofs.wide_kind.barrier_primal.Reads as wide_barrier_primal
use Rattle.kinds.proofs.wide_kind.compute_barrier.Reads as wide_compute_barrier
use Rattle.kinds.proofs.wide_kind.get_hs.Reads as wide_get_hs

pub used_agrees : OneAnswer used.Post
used_agrees κs a x y s t p q = p ∙ sym q

pub answer_agrees : OneAnswer answer.Post
answer_agrees κs a x y s t p q = p ∙ sym q

pub passes_agrees : OneAnswer passes.Post
passes_agrees κs a x y s t p q = p ∙ sym q

pub barrier_dual_agrees : OneAnswer barrier_dual.Post
barrier_dual_agrees κs a x y s t p q = p ∙ sym q

pub dual_grad_h_agrees : OneAnswer dual_grad_h.Post
dual_grad_h_agrees κs a x y s t p q = p ∙ sym q

pub three_unit_initialization_agrees : OneAnswer three_unit_initialization.Post
three_unit_initialization_agrees κs a x y s t p q = p ∙ sym q

pub three_update_dual_grad_h_agrees : OneAnswer three_update_dual_grad_h.Post
three_update_dual_grad_h_agrees κs a x y s t p q = p ∙ sym q

pub three_gradient_primal_agrees : OneAnswer three_gradient_primal.Post
three_gradient_primal_agrees κs a x y s t p q = p ∙ sym q

pub three_barrier_primal_agrees : OneAnswer three_barrier_primal.Post
three_barrier_primal_agrees κs a x y s t p q = p ∙ sym q

pub three_compute_barrier_agrees : OneAnswer three_compute_barrier.Post
three_compute_barrier_agrees κs a x y s t p q = p ∙ sym q

pub three_higher_correction_agrees : OneAnswer three_higher_correction.Post
three_higher_correction_agrees κs a x y s t p q = p ∙ sym q

pub three_combined_ds_shift_agrees : OneAnswer three_combined_ds_shift.Post
three_combined_ds_shift_agrees κs a x y s t p q = p ∙ sym q

pub wide_unit_initialization_agrees : OneAnswer wide_unit_initialization.Post
wide_unit_initialization_agrees κs a x y s t p q = p ∙ sym q

pub wide_gradient_primal_agrees : OneAnswer wide_gradient_primal.Post
wide_gradient_primal_agrees κs a x y s t p q = p ∙ sym q

pub wide_barrier_primal_agrees : OneAnswer wide_barrier_primal.Post
wide_barrier_primal_agrees κs a x y s t p q = p ∙ sym q

pub wide_compute_barrier_agrees : OneAnswer wide_compute_barrier.Post
wide_compute_barrier_agrees κs a x y s t p q = p ∙ sym q

pub wide_get_hs_agrees : OneAnswer wide_get_hs.Post
wide_get_hs_agrees κs a x y s t p q = p ∙ sym q
