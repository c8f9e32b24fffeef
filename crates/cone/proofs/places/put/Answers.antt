-- `put` meets its contract: after i turns the first i numbers are written. Assumes nothing.
use Rattle.std.proofs.Common.{sym, refl, ◌∙◌, arith}
use Rattle.std.proofs.lemmas.List.{get_or-map}
use lib.ListN.{length-map}
use lib.Ieee.{nan}
use Rattle.cone.proofs.Written.{sets_more, sets_all}
use Rattle.cone.proofs.places.put.Goals as goal

pub loop-i-init : goal.loop-i-init
loop-i-init g c = λ h each. refl

pub loop-i-preserved : goal.loop-i-preserved
loop-i-preserved g c = λ h each.
    let xs = c.args.xs.now in
    let i = c.loop-i.i in
    sets_more _ _ _ i (c.loop-i.invariant h each) (each _ _ c.f.ensures ∙ sym (get_or-map h xs i nan nan c.loop-i-test.true))
    (omega (arith, length-map xs h))

pub returns : goal.returns
returns g c = λ h each. sets_all _ _ _ c.loop-i.i (c.loop-i.invariant h each) (omega (arith, length-map c.args.xs.now h))
