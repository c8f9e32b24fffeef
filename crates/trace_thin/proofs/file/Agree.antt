-- 01: "For each, show that any two outcomes allowed by it agree". Assumes nothing.
use mathlib.Core.Path.{sym, ◌∙◌}
use mathlib.Core.List.{List}
use Prim.Native.Nat.{ℕ}
use Rattle.arith.specs.Outcomes.{OneOutcome}
use Rattle.trace_thin.proofs.file.put_thin.Reads as put_thin

pub put_thin_agrees : OneOutcome put_thin.Post {A = List ℕ × List ℕ} (λ κs s. (s.1.0.now, s.1.1.0.now))
put_thin_agrees κs a x y s t p q = (p.0 ∙ sym q.0, (cc))
