-- 01: "For each, show that any two outcomes allowed by it agree". Every contract here is one equation. Assumes nothing.
use mathlib.Core.Path.{◌∙◌, sym}
use mathlib.Core.List.{List}
use lib.Ieee.{Float}
use Rattle.arith.specs.Outcomes.{OneAnswer, OneOutcome}
use Rattle.judges.proofs.Outcomes.{two}
use Rattle.search.specs.declared.Searched.{Searched}
use Rattle.search.proofs.Agree.{searched}
use Rattle.search.proofs.plan.plan_ok.Reads as plan_ok
use Rattle.search.proofs.plan.total.Reads as total
use Rattle.search.proofs.plan.common_search.Reads as common_search
use Rattle.search.proofs.plan.sides_search.Reads as sides_search

pub plan_ok_agrees : OneAnswer plan_ok.Post
plan_ok_agrees κs a x y s t p q = p ∙ sym q

pub total_agrees : OneAnswer total.Post
total_agrees κs a x y s t p q = p ∙ sym q

-- the point is the sixth argument
pub common_search_agrees : OneOutcome common_search.Post {A = List Float} (λ κs s. s.1.1.1.1.1.0.now)
common_search_agrees κs a x y s t p q = searched (p ∙ sym q)

-- the points are the seventh and the eighth argument
pub sides_search_agrees :
    OneOutcome sides_search.Post {A = List Float × List Float} (λ κs s. (s.1.1.1.1.1.1.0.now, s.1.1.1.1.1.1.1.0.now))
sides_search_agrees κs a x y s t p q = two {A = Searched} (p ∙ sym q)
