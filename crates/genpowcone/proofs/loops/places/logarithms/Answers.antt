-- `logarithms` meets its contract: its closure gives what the definition says of each place. Assumes nothing.
use Rattle.std.proofs.Common.{rules}
use Rattle.kernels.specs.Door.{log_of}
use Rattle.genpowcone.proofs.loops.places.logarithms.Goals as goal

pub returns : goal.returns
returns c = c.filled.ensures log_of (λ x y given. search rules)
