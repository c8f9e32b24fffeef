-- 01: "For each, show that any two outcomes allowed by it agree". Every contract here is one equation. Assumes nothing.
use mathlib.Core.Path.{◌≡◌, ◌∙◌, sym, ap}
use mathlib.Core.List.{List}
use lib.Ieee.{Float}
use Rattle.arith.specs.Outcomes.{OneOutcome}
use Rattle.search.specs.trials.Search.{Outcome, outcome}
use Rattle.search.specs.declared.Searched.{Searched}
use Rattle.search.proofs.backtrack_search.Reads as backtrack_search

-- an outcome of a search has one step and count, and one point
pub searched : {x y : Searched} {p q : List Float} → outcome x.step x.count p ≡ outcome y.step y.count q → (x ≡ y) × (p ≡ q)
searched e = (ap (λ (o : Outcome). record { step = o.step; count = o.count }) e, ap (λ (o : Outcome). o.point) e)

-- the point is the sixth argument
pub backtrack_search_agrees : OneOutcome backtrack_search.Post {A = List Float} (λ κs s. s.1.1.1.1.1.0.now)
backtrack_search_agrees κs a x y s t p q = searched (p ∙ sym q)
