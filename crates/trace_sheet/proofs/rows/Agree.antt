-- 01: "For each, show that any two outcomes allowed by it agree". Assumes nothing.
use mathlib.Core.Path.{◌≡◌, sym, ap, ◌∙◌}
use mathlib.Core.List.{List}
use Prim.Native.Nat.{ℕ}
use Rattle.arith.specs.Outcomes.{OneOutcome}
use Rattle.trace_sheet.specs.rows.Rows.{Held}
use Rattle.trace_sheet.proofs.rows.join.Reads as joining
use Rattle.trace_sheet.proofs.rows.add.Reads as adding

-- two outcomes that equal the same
rows_alike : {x y : Held} → x ≡ y → ◌≡◌ {A = List ℕ × List ℕ × List ℕ} (x.dual, x.primal, x.skipped) (y.dual, y.primal, y.skipped)
rows_alike e = ap (λ (h : Held). (h.dual, h.primal, h.skipped)) e

pub held_alike : {x y : Held} → x ≡ y
    → (x.totals ≡ y.totals) × (◌≡◌ {A = List ℕ × List ℕ × List ℕ} (x.dual, x.primal, x.skipped) (y.dual, y.primal, y.skipped))
held_alike e = (ap (λ (h : Held). h.totals) e, rows_alike e)

pub join_agrees : OneOutcome joining.Post {A = List ℕ × List ℕ × List ℕ} (λ κs s. (s.1.0.now, s.1.1.0.now, s.1.1.1.0.now))
join_agrees κs a x y s t p q = held_alike (p ∙ sym q)

pub add_agrees : OneOutcome adding.Post {A = List ℕ × List ℕ × List ℕ} (λ κs s. (s.1.0.now, s.1.1.0.now, s.1.1.1.0.now))
add_agrees κs a x y s t p q = held_alike (p.0 ∙ sym q.0)
