-- `rectified` meets its contract: its closure gives what the definition says of each place. Assumes nothing.
use Rattle.std.proofs.Common.{rules, ap, ◌∙◌, map}
use lib.Ieee.{Float}
use Rattle.cone.specs.Points.{padded}
use Rattle.call_cone.specs.formulas.Equilibration.{rectified_at, rectified_of}
use Rattle.call_cone.proofs.formulas.equilibration.rectified.Goals as goal

pub returns : goal.returns
unfolding rectified_of
returns c =
    let e = c.args.e.now in
    c.filled.ensures (rectified_at c.mean-m.result) (λ x y given. search rules)
    ∙ ap (λ (m : Float). padded 64 (map (rectified_at m) e)) c.mean-m.ensures
