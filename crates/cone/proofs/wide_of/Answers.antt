-- `wide_of` meets its contract: each place holds the slice's own number. Assumes nothing.
use Rattle.std.proofs.Common.{rules, ap, ◌∙◌}
use Rattle.std.proofs.lemmas.List.{map-id}
use lib.Ieee.{Float}
use Rattle.cone.specs.Points.{padded}
use Rattle.cone.proofs.wide_of.Goals as goal

pub returns : goal.returns
returns c = c.filled.ensures (λ (x : Float). x) (λ x y given. search rules) ∙ ap (padded 64) (map-id c.args.xs.now)
