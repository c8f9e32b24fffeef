-- `newton_raphson_onesided` meets its contract: with `done` rounds done, what is left of the hundred from x is the answer. Assumes nothing.
use Rattle.std.proofs.Common.{refl, ◌∙◌, arith}
use Rattle.algebra.specs.newton.Rounds.{newton_of}
use Rattle.algebra.proofs.newton.RoundsLeft.{goes, halts, ends}
use Rattle.algebra.proofs.newton.newton_raphson_onesided.Goals as goal

pub loop-done-init : goal.loop-done-init
unfolding newton_of
loop-done-init c = refl

pub loop-done-preserved : goal.loop-done-preserved
loop-done-preserved c =
    let s = c.before in
    let v = s.before in
    let d = v.before in
    let l = d.loop-done in
    goes _ _ _ _ _ _ d.f1-dfdx.ensures v.f0.ensures s.stops.ensures l.done (omega arith) c.if-stops.false ∙ l.invariant

pub returns-then-stops : goal.returns-then-stops
returns-then-stops c =
    let s = c.before in
    let v = s.before in
    let d = v.before in
    let l = d.loop-done in
    halts _ _ _ _ _ _ d.f1-dfdx.ensures v.f0.ensures s.stops.ensures l.done (omega arith) _ (omega arith) c.if-stops.true ∙ l.invariant

pub returns : goal.returns
returns c =
    let l = c.loop-done in
    ends _ _ l.x l.done (omega arith) ∙ l.invariant
