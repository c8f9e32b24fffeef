-- `tau_and_grad` meets its contract: after i turns the first i places of both arrays are written, and what is left of both slices begins at
-- place i. Assumes nothing.
use Rattle.std.proofs.Common.{ℕ, ◌≤◌, min, List, length, drop, sym, ap, ap₂, ◌∙◌, arith, rules, length-drop}
use mathlib.Core.Logic.{inl, inr}
use lib.Ieee.{Float}
use Rattle.cone.proofs.Points.{padded-none}
use Rattle.cone.proofs.Written.{left-next}
use Rattle.genpowcone.specs.loops.Places.{heads_of}
use Rattle.genpowcone.proofs.loops.Arrays.{zip_more, zip_all}
use Rattle.genpowcone.specs.declared.loops.places.Heads.{Heads}
use Rattle.genpowcone.proofs.loops.places.tau_and_grad.Goals as goal

abbrev both : List Float → List Float → Heads
both t g = record { tau = t; grad = g }

pub loop-i-init : goal.loop-i-init
loop-i-init c =
    let none = padded-none in
    (search rules, search rules, search rules, search rules, search rules, search rules, search (rules, none), search (rules, none))

pub loop-i-preserved : goal.loop-i-preserved
loop-i-preserved c =
    let α = c.args.alpha.now in
    let z = c.args.z.now in
    let l = c.loop-i in
    let i = l.i-iterator.count in
    let step = c.in-Some.ensures.steps in
    let a = left-next α i (sym l.invariant.2 ∙ step.0.0) in
    let x = left-next z i (sym l.invariant.3 ∙ step.0.1) in
    let next = sym step.2 in (
      search rules,
      search rules,
      a.0 ∙ ap (λ (k : ℕ). drop k α) next,
      x.0 ∙ ap (λ (k : ℕ). drop k z) next,
      omega (arith, a.1, next),
      omega (arith, x.1, next),
      zip_more 32 _ α z i l.invariant.6 a.1 x.1 (omega (arith, a.1)) step.1 a.2 x.2 next,
      zip_more 64 _ α z i l.invariant.7 a.1 x.1 (omega (arith, a.1)) step.1 a.2 x.2 next,
    )

pub returns : goal.returns
unfolding heads_of
returns c =
    let α = c.args.alpha.now in
    let z = c.args.z.now in
    let l = c.loop-i in
    let i = l.i-iterator.count in
    let end : min (length α) (length z) ≤ i = elim c.in-None.ensures.steps.0 [
      | inl p ↦ omega (arith, length-drop i α, ap length l.invariant.2, p.1.0)
      | inr p ↦ omega (arith, length-drop i z, ap length l.invariant.3, p.1.0)
    ] in
    ap₂ both (zip_all 32 _ α z i l.invariant.6 end) (zip_all 64 _ α z i l.invariant.7 end)
