-- `unit_head` meets its contract: its closure gives what the definition says of each place. Assumes nothing.
use Rattle.std.proofs.Common.{rules}
use lib.Ieee.{Float}
use Rattle.double.specs.Operators.{◌⊕◌}
use Rattle.double.specs.Numbers.{#1}
use Rattle.kernels.specs.Door.{sqrt_of}
use Rattle.genpowcone.proofs.loops.places.unit_head.Goals as goal

pub returns : goal.returns
returns c = c.filled.ensures (λ (x : Float). sqrt_of (#1 ⊕ x)) (λ x y given. search rules)
