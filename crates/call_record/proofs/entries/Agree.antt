-- 01: "For each, show that any two outcomes allowed by it agree". Every contract here is one equation. Assumes nothing.
use mathlib.Core.Path.{◌∙◌, sym}
use mathlib.Core.List.{List}
use lib.Ieee.{Float}
use Rattle.arith.specs.Outcomes.{OneAnswer, OneOutcome}
use Rattle.cone.specs.declared.Rounds.{Rounds}
use Rattle.judges.proofs.Outcomes.{one, one_done}
use Rattle.call_record.proofs.entries.gradient_primal.Reads as gradient_primal
use Rattle.call_record.proofs.entries.barrier_primal.Reads as barrier_primal
use Rattle.call_record.proofs.entries.compute_barrier.Reads as compute_barrier
use Rattle.call_record.proofs.entries.get_hs.Reads as get_hs
use Rattle.call_record.proofs.entries.mul_hs.Reads as mul_hs
use Rattle.call_record.proofs.entries.higher_correction.Reads as higher_correction
use Rattle.call_record.proofs.entries.combined_ds_shift.Reads as combined_ds_shift

pub gradient_primal_agrees : OneOutcome gradient_primal.Post {A = List Float} (λ κs s. s.1.0.now)
gradient_primal_agrees κs a x y s t p q = one {A = Rounds} (p ∙ sym q)

pub barrier_primal_agrees : OneAnswer barrier_primal.Post
barrier_primal_agrees κs a x y s t p q = p ∙ sym q

pub compute_barrier_agrees : OneAnswer compute_barrier.Post
compute_barrier_agrees κs a x y s t p q = p ∙ sym q

pub get_hs_agrees : OneOutcome get_hs.Post {A = List Float} (λ κs s. s.1.1.0.now)
get_hs_agrees κs a x y s t p q = one_done {r = x} {s = y} (p ∙ sym q)

pub mul_hs_agrees : OneOutcome mul_hs.Post {A = List Float} (λ κs s. s.1.1.0.now)
mul_hs_agrees κs a x y s t p q = one_done {r = x} {s = y} (p ∙ sym q)

pub higher_correction_agrees : OneOutcome higher_correction.Post {A = List Float} (λ κs s. s.1.1.0.now)
higher_correction_agrees κs a x y s t p q = one_done {r = x} {s = y} (p ∙ sym q)

pub combined_ds_shift_agrees : OneOutcome combined_ds_shift.Post {A = List Float} (λ κs s. s.1.1.0.now)
combined_ds_shift_agrees κs a x y s t p q = one_done {r = x} {s = y} (p ∙ sym q)
