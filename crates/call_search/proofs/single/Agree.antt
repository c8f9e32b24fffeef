-- 01: "For each, show that any two outcomes allowed by it agree". Every contract here is one equation. Assumes nothing.
use mathlib.Core.Path.{◌∙◌, sym}
use mathlib.Core.List.{List}
use lib.Ieee.{Float}
use Rattle.arith.specs.Outcomes.{OneOutcome}
use Rattle.cone.specs.declared.Found.{Found}
use Rattle.cone.specs.declared.Steps.{Steps}
use Rattle.judges.proofs.Outcomes.{one, two}
use Rattle.call_search.proofs.single.backtrack_search.Reads as backtrack_search
use Rattle.call_search.proofs.single.step_length.Reads as step_length

pub backtrack_search_agrees : OneOutcome backtrack_search.Post {A = List Float} (λ κs s. s.1.1.1.1.0.now)
backtrack_search_agrees κs a x y s t p q = one {A = Found} (p ∙ sym q)

pub step_length_agrees :
    OneOutcome step_length.Post {A = List Float × List Float} (λ κs s. (s.1.1.1.1.1.0.now, s.1.1.1.1.1.1.0.now))
step_length_agrees κs a x y s t p q = two {A = Steps} (p ∙ sym q)
