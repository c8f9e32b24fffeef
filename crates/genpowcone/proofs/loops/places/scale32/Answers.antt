-- `scale32` meets its contract: its closure gives what the definition says of each place. Assumes nothing.
use Rattle.std.proofs.Common.{rules}
use lib.Ieee.{Float}
use Rattle.double.specs.Operators.{◌⊗◌}
use Rattle.genpowcone.proofs.loops.places.scale32.Goals as goal

pub returns : goal.returns
returns c = c.filled.ensures (λ (x : Float). x ⊗ c.args.c) (λ x y given. search rules)
