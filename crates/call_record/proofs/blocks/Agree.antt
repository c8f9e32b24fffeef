-- 01: "For each, show that any two outcomes allowed by it agree". Every contract here is one equation. Assumes nothing.
use mathlib.Core.Path.{◌∙◌, sym}
use mathlib.Core.List.{List}
use lib.Ieee.{Float}
use Rattle.arith.specs.Outcomes.{OneAnswer, OneOutcome}
use Rattle.judges.proofs.Outcomes.{one_done}
use Rattle.call_record.proofs.blocks.get_hs.Reads as get_hs
use Rattle.call_record.proofs.blocks.mul_hs.Reads as mul_hs

pub get_hs_agrees : OneOutcome get_hs.Post {A = List Float} (λ κs s. s.1.1.0.now)
get_hs_agrees κs a x y s t p q = one_done {r = x} {s = y} (p ∙ sym q)

pub mul_hs_agrees : OneOutcome mul_hs.Post {A = List Float} (λ κs s. s.1.1.0.now)
mul_hs_agrees κs a x y s t p q = one_done {r = x} {s = y} (p ∙ sym q)
