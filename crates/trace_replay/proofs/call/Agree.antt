-- 01: "For each, show that any two outcomes allowed by it agree". Assumes nothing.
use mathlib.Core.Path.{◌≡◌, sym, ap, ◌∙◌}
use mathlib.Core.List.{List}
use Prim.Native.Nat.{ℕ}
use Rattle.arith.specs.Outcomes.{OneOutcome}
use Rattle.trace_replay.specs.call.Replay.{Noted}
use Rattle.trace_replay.proofs.call.replay.Reads as replaying

-- two outcomes that equal the same
pub noted_alike : {x y : Noted} → x ≡ y → (x.answer ≡ y.answer) × (x.offsets ≡ y.offsets)
noted_alike e = (ap (λ (o : Noted). o.answer) e, ap (λ (o : Noted). o.offsets) e)

pub replay_agrees : OneOutcome replaying.Post {A = List ℕ} (λ κs s. s.1.0.now)
replay_agrees κs a x y s t p q = noted_alike (p ∙ sym q)
