-- `times_from` meets its contract: its closure gives what the definition says of each place. Assumes nothing.
use Rattle.std.proofs.Common.{rules}
use lib.Ieee.{Float}
use Rattle.double.specs.Operators.{◌⊗◌}
use Rattle.genpowcone.proofs.loops.places.times_from.Goals as goal

pub returns : goal.returns
returns c = c.put.ensures (λ (x : Float). c.args.c ⊗ x) (λ x y given. search rules)
