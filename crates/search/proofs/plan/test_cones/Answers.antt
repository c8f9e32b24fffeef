-- `test_cones` meets its contract. The loop's invariant is `PassedTo`: the cones behind passed, on the numbers behind.
-- Assumes nothing.
use mathlib.Core.Path.{◌≡◌, sym, ◌∙◌, subst}
use mathlib.Core.Bool.{Bool}
use mathlib.Core.List.{List, []}
use Prim.Native.Nat.{ℕ, ◌+◌}
use native.Mathlib.Omega.{arith}
use lib.ListN.{take, drop}
use lib.Ieee.{Float}
use Rattle.cone.specs.declared.Cone.{Cone}
use Rattle.cone.specs.Codes.{numel_of}
use Rattle.search.specs.plan.Plans.{cone_passes}
use Rattle.search.proofs.plan.Plans.{PassedTo, passed_none, passed-next, failed_now, passed_all, fits}
use Rattle.search.proofs.plan.test_cones.Goals as goal

-- the cone that is tested, on its part of the point
part
    : (r : Bool) (d : Cone) (primal : Bool) (x y p : List Float) (n at : ℕ)
    → r ≡ cone_passes d primal x
    → x ≡ take n y
    → y ≡ drop at p
    → n ≡ numel_of d
    → r ≡ cone_passes d primal (take (numel_of d) (drop at p))
part r d primal x y p n at h₁ h₂ h₃ h₄ = cc

pub loop-i-init : goal.loop-i-init
loop-i-init c = passed_none _ _ _ c.requires.1

pub returns-then-not-cone_passes : goal.returns-then-not-cone_passes
returns-then-not-cone_passes c =
    let a = c.args in
    let l = c.loop-i in
    let tested = part _ _ _ _ _ a.point.now _ l.at c.cone_passes.ensures c.head.ensures c.tail.ensures c.numel_of-n.ensures in
    failed_now a.cones.now a.primal a.point.now l.at l.i [] (omega arith) l.invariant
    (sym tested ∙ c.if-not-cone_passes.true)

pub overflow_add-at : goal.overflow_add-at
overflow_add-at c =
    let a = c.args in
    let l = c.loop-i in
    let f = fits a.cones.now a.primal a.point.now l.at l.i [] (omega arith) l.invariant in
    omega (arith, f, c.numel_of-n.ensures)

pub loop-i-preserved : goal.loop-i-preserved
loop-i-preserved c =
    let a = c.args in
    let l = c.loop-i in
    let tested = part _ _ _ _ _ a.point.now _ l.at c.cone_passes.ensures c.head.ensures c.tail.ensures c.numel_of-n.ensures in
    let passed = sym tested ∙ c.if-not-cone_passes.false in
    let on = passed-next a.cones.now a.primal a.point.now l.at l.i [] (omega arith) l.invariant passed in
    subst (λ (n : ℕ). PassedTo a.cones.now a.primal a.point.now (l.at + n) (l.i + 1)) (sym c.numel_of-n.ensures) on

pub returns : goal.returns
returns c = passed_all _ _ _ _ _ c.loop-i.invariant (omega arith)
