-- `negated` meets its contract: its closure gives what the definition says of each place. Assumes nothing.
use Rattle.std.proofs.Common.{rules}
use Rattle.std.specs.Float.Ieee.{neg}
use Rattle.genpowcone.proofs.loops.places.negated.Goals as goal

pub returns : goal.returns
returns c = c.filled.ensures neg (λ x y given. search rules)
