-- 01: "For each, show that any two outcomes allowed by it agree". Assumes nothing.
use mathlib.Core.Path.{◌≡◌, sym, ap, ◌∙◌}
use mathlib.Core.List.{List}
use Prim.Native.Nat.{ℕ}
use Rattle.arith.specs.Outcomes.{OneOutcome}
use Rattle.trace_sheet.specs.text.Printed.{Told}
use Rattle.trace_sheet.proofs.text.put_sheet.Reads as put_sheet

-- two outcomes that equal the same
pub told_alike : {x y : Told} → x ≡ y → (x.answer ≡ y.answer) × (x.text ≡ y.text)
told_alike e = (ap (λ (o : Told). o.answer) e, ap (λ (o : Told). o.text) e)

pub put_sheet_agrees : OneOutcome put_sheet.Post {A = List ℕ} (λ κs s. s.0.now)
put_sheet_agrees κs a x y s t p q = told_alike (p ∙ sym q)
