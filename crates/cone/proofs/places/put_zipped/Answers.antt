-- `put_zipped` meets its contract: after i turns the first i numbers are written, and what is left of both slices begins at place i.
-- Assumes nothing.
use Rattle.std.proofs.Common.{ℕ, ◌+◌, ◌≤◌, length, take, drop, set, sym, ap, ap₂, ◌∙◌, arith, rules, length-drop}
use Rattle.std.proofs.lemmas.List.Edits.{sets}
use mathlib.Core.List.{zip_with}
use mathlib.Core.Logic.{inl, inr}
use Rattle.cone.proofs.Written.{left-next, sets_more, sets_all, zip_length, zip_place}
use Rattle.cone.proofs.places.put_zipped.Goals as goal

pub loop-i-preserved : goal.loop-i-preserved
loop-i-preserved g c =
    let xs = c.args.xs.now in
    let ys = c.args.ys.now in
    let l = c.loop-i in
    let i = l.i-iterator.count in
    let step = c.in-Some.ensures.steps in
    let x = left-next xs i (sym l.invariant.2 ∙ step.0.0) in
    let y = left-next ys i (sym l.invariant.3 ∙ step.0.1) in
    let next = sym step.2 in (
      search rules,
      search rules,
      x.0 ∙ ap (λ (k : ℕ). drop k xs) next,
      y.0 ∙ ap (λ (k : ℕ). drop k ys) next,
      omega (arith, x.1, next),
      omega (arith, y.1, next),
      λ h each.
          ap (λ (k : ℕ). set l.out (c.args.n + k) c.f.result) step.1
          ∙ sets_more _ _ (zip_with h xs ys) i (l.invariant.6 h each)
          (each _ _ _ c.f.ensures ∙ ap₂ h x.2 y.2 ∙ sym (zip_place h xs ys i x.1 y.1))
          (omega (arith, zip_length h xs ys, x.1, y.1))
          ∙ ap (λ (k : ℕ). sets c.args.g c.args.n (take k (zip_with h xs ys))) next,
    )

pub returns : goal.returns
returns g c = λ h each.
    let xs = c.args.xs.now in
    let ys = c.args.ys.now in
    let l = c.loop-i in
    let i = l.i-iterator.count in
    let end : length (zip_with h xs ys) ≤ i = elim c.in-None.ensures.steps.0 [
      | inl p ↦ omega (arith, zip_length h xs ys, length-drop i xs, ap length l.invariant.2, p.1.0)
      | inr p ↦ omega (arith, zip_length h xs ys, length-drop i ys, ap length l.invariant.3, p.1.0)
    ] in
    sets_all _ _ _ i (l.invariant.6 h each) end
