-- 01: "For each, show that any two outcomes allowed by it agree". Assumes nothing.
use mathlib.Core.Path.{◌≡◌, sym, ap, ◌∙◌}
use mathlib.Core.List.{List}
use Prim.Native.Nat.{ℕ}
use Rattle.arith.specs.Outcomes.{OneOutcome}
use Rattle.trace_thin.specs.call.Thin.{Left}
use Rattle.trace_thin.proofs.call.thin.Reads as thinning
use Rattle.trace_thin.proofs.call.thin_in_place.Reads as in_place

-- two outcomes that equal the same
pub left_alike : {x y : Left} → x ≡ y → (x.answer ≡ y.answer) × (x.output ≡ y.output)
left_alike e = (ap (λ (o : Left). o.answer) e, ap (λ (o : Left). o.output) e)

pub thin_agrees : OneOutcome thinning.Post {A = List ℕ} (λ κs s. s.1.0.now)
thin_agrees κs a x y s t p q = left_alike (p.0 ∙ sym q.0)

pub thin_in_place_agrees : OneOutcome in_place.Post {A = List ℕ} (λ κs s. s.0.now)
thin_in_place_agrees κs a x y s t p q = left_alike (p.0 ∙ sym q.0)
