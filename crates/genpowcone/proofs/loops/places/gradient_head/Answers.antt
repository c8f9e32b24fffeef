-- `gradient_head` meets its contract: its closure gives what the definition says of each place. Assumes nothing.
use Rattle.std.proofs.Common.{rules}
use Rattle.std.specs.Float.Ieee.{neg}
use lib.Ieee.{Float}
use Rattle.double.specs.Operators.{◌⊕◌, ◌⊗◌, ◌⊘◌}
use Rattle.double.specs.Numbers.{#1}
use Rattle.genpowcone.proofs.loops.places.gradient_head.Goals as goal

pub returns : goal.returns
returns c = c.filled_zipped.ensures (λ (a x : Float). neg (#1 ⊕ a ⊕ a ⊗ c.args.g1 ⊗ c.args.normr) ⊘ x) (λ x y z given. search rules)
