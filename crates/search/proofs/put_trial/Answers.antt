-- `put_trial` fills the lent slice from the front: after i turns its first i places are those of the trial's point, and what is left of q
-- and dq begins at place i. Assumes nothing.
use Rattle.std.proofs.Common.{rules, ℕ, sym, ap, ap₂, ◌∙◌, drop, length, length-drop, arith, ◌≤◌}
use mathlib.Core.Logic.{inl, inr}
use lib.Ieee.{nan}
use Rattle.double.specs.Operators.{◌⊕◌, ◌⊗◌}
use Rattle.search.specs.Points.{trial_point}
use Rattle.algebra.proofs.Moved.{moved_place}
use Rattle.search.proofs.Points.{length-point, filled_none, filled_more, filled_all, left-next}
use Rattle.search.proofs.put_trial.Goals as goal

pub loop-i-init : goal.loop-i-init
loop-i-init c =
    (search rules, search rules, search rules, search rules, filled_none (trial_point c.args.q.now c.args.dq.now c.args.alpha) c.args.point.now _ (search rules))

pub loop-i-preserved : goal.loop-i-preserved
loop-i-preserved c =
    let a = c.args in
    let l = c.loop-i in
    let i = l.i-iterator.count in
    let target = trial_point a.q.now a.dq.now a.alpha in
    let n = length-point a.q.now a.dq.now a.alpha c.requires.0 in
    let step = c.in-Some.ensures.steps in
    let x = left-next a.q.now i nan (sym l.invariant.2 ∙ step.0.0) in
    let y = left-next a.dq.now i nan (sym l.invariant.3 ∙ step.0.1) in
    let next = sym step.2 in
    let value = ap₂ (λ x d. x ⊕ a.alpha ⊗ d) x.2 y.2 ∙ sym (moved_place a.q.now a.alpha a.dq.now i x.1 y.1) in
    let more = filled_more target a.point.now l.point i _ nan (c.requires.1 ∙ sym n) l.invariant.4 (omega (arith, n, x.1)) value in (
      search rules,
      search rules,
      x.0 ∙ ap (λ (k : ℕ). drop k a.q.now) next,
      y.0 ∙ ap (λ (k : ℕ). drop k a.dq.now) next,
      rw (step.1, step.2) more,
    )

pub returns : goal.returns
returns c =
    let a = c.args in
    let l = c.loop-i in
    let i = l.i-iterator.count in
    let target = trial_point a.q.now a.dq.now a.alpha in
    let n = length-point a.q.now a.dq.now a.alpha c.requires.0 in
    let end : length target ≤ i = elim c.in-None.ensures.steps.0 [
      | inl p ↦ omega (arith, n, length-drop i a.q.now, ap length l.invariant.2, p.1.0)
      | inr p ↦ omega (arith, n, c.requires.0, length-drop i a.dq.now, ap length l.invariant.3, p.1.0)
    ] in
    filled_all target a.point.now l.point i (c.requires.1 ∙ sym n) l.invariant.4 end
