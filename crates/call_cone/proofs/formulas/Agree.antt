-- 01: "For each, show that any two outcomes allowed by it agree". Every contract here is one equation. Assumes nothing.
use mathlib.Core.Path.{◌∙◌, sym}
use mathlib.Core.List.{List}
use lib.Ieee.{Float}
use Rattle.arith.specs.Outcomes.{OneAnswer, OneOutcome}
use Rattle.cone.specs.declared.YesNo.{YesNo}
use Rattle.judges.proofs.Outcomes.{one, two_done}
use Rattle.call_cone.proofs.formulas.fresh.Reads as fresh
use Rattle.call_cone.proofs.formulas.barrier_dual.Reads as barrier_dual
use Rattle.call_cone.proofs.formulas.dual_grad_h.Reads as dual_grad_h
use Rattle.call_cone.proofs.formulas.unit_initialization.Reads as unit_initialization
use Rattle.call_cone.proofs.formulas.rectify_equilibration.Reads as rectify_equilibration

pub fresh_agrees : OneAnswer fresh.Post
fresh_agrees κs a x y s t p q = p ∙ sym q

pub barrier_dual_agrees : OneAnswer barrier_dual.Post
barrier_dual_agrees κs a x y s t p q = p ∙ sym q

pub dual_grad_h_agrees : OneAnswer dual_grad_h.Post
dual_grad_h_agrees κs a x y s t p q = p ∙ sym q

pub unit_initialization_agrees :
    OneOutcome unit_initialization.Post {A = List Float × List Float} (λ κs s. (s.1.0.now, s.1.1.0.now))
unit_initialization_agrees κs a x y s t p q = two_done {r = x} {s = y} (p ∙ sym q)

pub rectify_equilibration_agrees : OneOutcome rectify_equilibration.Post {A = List Float} (λ κs s. s.1.0.now)
rectify_equilibration_agrees κs a x y s t p q = one {A = YesNo} (p ∙ sym q)
