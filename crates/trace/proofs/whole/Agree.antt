-- 01: "For each, show that any two outcomes allowed by it agree". Assumes nothing.
use mathlib.Core.Path.{sym, ◌∙◌}
use mathlib.Core.List.{List}
use Prim.Native.Nat.{ℕ}
use Rattle.arith.specs.Outcomes.{OneOutcome}
use Rattle.trace.proofs.whole.walk.Reads as walking

pub walk_agrees : OneOutcome walking.Post {A = List ℕ} (λ κs s. s.1.1.0.now)
walk_agrees κs a x y s t p q = (p.0 ∙ sym q.0, p.1 ∙ sym q.1)
