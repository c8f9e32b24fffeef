-- 01: "For each, show that any two outcomes allowed by it agree". Assumes nothing.
use mathlib.Core.Path.{refl, sym, ◌∙◌}
use mathlib.Core.List.{List}
use Prim.Native.Nat.{ℕ}
use Rattle.arith.specs.Outcomes.{OneOutcome}
use Rattle.trace.proofs.seal.seal.Reads as sealing

pub seal_agrees : OneOutcome sealing.Post {A = List ℕ} (λ κs s. s.0.now)
seal_agrees κs a x y s t p q = (refl, p ∙ sym q)
