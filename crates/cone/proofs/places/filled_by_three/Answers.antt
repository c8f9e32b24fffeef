-- `filled_by_three` meets its contract: after i turns the first i numbers are written, and what is left of the slices begins at place i.
-- Assumes nothing.
use Rattle.std.proofs.Common.{◌≡◌, ℕ, ◌≤◌, length, take, drop, set, replicate, sym, ap, ◌∙◌, arith, rules, length-drop}
use Rattle.std.proofs.lemmas.List.Edits.{sets}
use mathlib.Core.Logic.{inl, inr}
use lib.Ieee.{Float}
use Rattle.double.specs.Operators.{at}
use Rattle.double.specs.Numbers.{#0}
use Rattle.cone.specs.Points.{zip_three}
use Rattle.cone.proofs.Written.{left-next, sets_more, sets_all, sets_front, three-length, three-place}
use Rattle.cone.proofs.places.filled_by_three.Goals as goal

pub loop-i-preserved : goal.loop-i-preserved
loop-i-preserved g c =
    let xs = c.args.xs.now in
    let ys = c.args.ys.now in
    let zs = c.args.zs.now in
    let l = c.loop-i in
    let i = l.i-iterator.count in
    let step = c.in-Some.ensures.steps in
    let x = left-next xs i (sym l.invariant.2 ∙ step.0.0.0) in
    let y = left-next ys i (sym l.invariant.3 ∙ step.0.0.1) in
    let z = left-next zs i (sym l.invariant.4 ∙ step.0.1) in
    let next = sym step.2 in (
      search rules,
      search rules,
      x.0 ∙ ap (λ (k : ℕ). drop k xs) next,
      y.0 ∙ ap (λ (k : ℕ). drop k ys) next,
      z.0 ∙ ap (λ (k : ℕ). drop k zs) next,
      omega (arith, x.1, next),
      omega (arith, y.1, next),
      omega (arith, z.1, next),
      λ h each.
          let given = each _ _ _ _ c.f.ensures in
          let same
          : h c.in-Some.x.now c.in-Some.y.now c.in-Some.z.now ≡ h (at xs i) (at ys i) (at zs i)
          = ap (λ (u : Float). h u c.in-Some.y.now c.in-Some.z.now) x.2 ∙ ap (λ (u : Float). h (at xs i) u c.in-Some.z.now) y.2
          ∙ ap (h (at xs i) (at ys i)) z.2 in
          ap (λ (k : ℕ). set l.out k c.f.result) (omega (arith, step.1))
          ∙ sets_more _ 0 (zip_three h xs ys zs) i (l.invariant.8 h each) (given ∙ same ∙ sym (three-place h xs ys zs i x.1 y.1 z.1))
          (omega (arith, three-length h xs ys zs, x.1, y.1, z.1))
          ∙ ap (λ (k : ℕ). sets (replicate g.row.N #0) 0 (take k (zip_three h xs ys zs))) next,
    )

pub returns : goal.returns
returns g c = λ h each.
    let xs = c.args.xs.now in
    let ys = c.args.ys.now in
    let zs = c.args.zs.now in
    let l = c.loop-i in
    let i = l.i-iterator.count in
    let long = three-length h xs ys zs in
    let end : length (zip_three h xs ys zs) ≤ i = elim c.in-None.ensures.steps.0 [
      | inl p ↦ elim p.1 [
        | inl q ↦ omega (arith, long, length-drop i xs, ap length l.invariant.2, q.1.0)
        | inr q ↦ omega (arith, long, length-drop i ys, ap length l.invariant.3, q.1.0)
      ]
      | inr p ↦ omega (arith, long, length-drop i zs, ap length l.invariant.4, p.1.0)
    ] in
    sets_all _ 0 _ i (l.invariant.8 h each) end ∙ sets_front _ _ (omega (arith, long))
