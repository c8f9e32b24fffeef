-- 01: "For each, show that any two outcomes allowed by it agree". Assumes nothing.
use mathlib.Core.Path.{◌≡◌, sym, ap, ◌∙◌}
use mathlib.Core.List.{List}
use Prim.Native.Nat.{ℕ}
use Rattle.arith.specs.Outcomes.{OneOutcome}
use Rattle.trace_rescue.specs.call.Rescue.{Saved}
use Rattle.trace_rescue.proofs.call.rescue.Reads as rescuing

-- two outcomes that equal the same
pub saved_alike : {x y : Saved} → x ≡ y → (x.answer ≡ y.answer) × (x.output ≡ y.output)
saved_alike e = (ap (λ (o : Saved). o.answer) e, ap (λ (o : Saved). o.output) e)

pub rescue_agrees : OneOutcome rescuing.Post {A = List ℕ} (λ κs s. s.1.0.now)
rescue_agrees κs a x y s t p q = saved_alike (p.0 ∙ sym q.0)
