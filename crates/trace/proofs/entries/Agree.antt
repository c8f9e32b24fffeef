-- 01: "For each, show that any two outcomes allowed by it agree". Assumes nothing.
use mathlib.Core.Path.{◌≡◌, sym, ap, ◌∙◌}
use mathlib.Core.List.{List}
use Prim.Native.Nat.{ℕ}
use Rattle.trace.specs.entries.Writing.{Left}
use Rattle.arith.specs.Outcomes.{OneAnswer, OneOutcome}
use Rattle.trace.proofs.entries.open.Reads as opening
use Rattle.trace.proofs.entries.create.Reads as create
use Rattle.trace.proofs.entries.append.Reads as append

-- two outcomes that equal the same
pub left : {x y : Left} → x ≡ y → (x.answer ≡ y.answer) × (x.bytes ≡ y.bytes)
left e = (ap (λ (o : Left). o.answer) e, ap (λ (o : Left). o.bytes) e)

pub open_agrees : OneAnswer opening.Post
open_agrees κs a x y s t p q = p ∙ sym q

pub create_agrees : OneOutcome create.Post {A = List ℕ} (λ κs s. s.0.now)
create_agrees κs a x y s t p q = left (p ∙ sym q)

pub append_agrees : OneOutcome append.Post {A = List ℕ} (λ κs s. s.0.now)
append_agrees κs a x y s t p q = left (p.0 ∙ sym q.0)
