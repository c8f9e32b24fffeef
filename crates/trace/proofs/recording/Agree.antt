-- 01: "For each, show that any two outcomes allowed by it agree". Assumes nothing.
use mathlib.Core.Path.{sym, ◌∙◌}
use mathlib.Core.List.{List}
use Prim.Native.Nat.{ℕ}
use Rattle.arith.specs.Outcomes.{OneAnswer, OneOutcome}
use Rattle.trace.proofs.entries.Agree.{left}
use Rattle.trace.proofs.recording.put.Reads as put
use Rattle.trace.proofs.recording.record_at.Reads as record_at
use Rattle.trace.proofs.recording.seal.Reads as sealing

pub put_agrees : OneOutcome put.Post {A = List ℕ} (λ κs s. s.0.now)
put_agrees κs a x y s t p q = left (p.0 ∙ sym q.0)

pub record_at_agrees : OneAnswer record_at.Post
record_at_agrees κs a x y s t p q = p ∙ sym q

pub seal_agrees : OneOutcome sealing.Post {A = List ℕ} (λ κs s. s.0.now)
seal_agrees κs a x y s t p q = left (p ∙ sym q)
