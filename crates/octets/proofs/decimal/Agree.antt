-- 01: "For each, show that any two outcomes allowed by it agree". Assumes nothing.
use mathlib.Core.Path.{sym, ◌∙◌}
use mathlib.Core.List.{List}
use Prim.Native.Nat.{ℕ}
use Rattle.arith.specs.Outcomes.{OneOutcome}
use Rattle.octets.proofs.decimal.put_decimal.Reads as put_decimal

pub put_decimal_agrees : OneOutcome put_decimal.Post {A = List ℕ} (λ κs s. s.0.now)
put_decimal_agrees κs a x y s t p q = (p.0 ∙ sym q.0, p.1 ∙ sym q.1)
