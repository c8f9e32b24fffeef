-- `ratios` meets its contract: its closure gives what the definition says of each place. Assumes nothing.
use Rattle.std.proofs.Common.{rules}
use Rattle.algebra.specs.newton.Equations.{ratio_of}
use Rattle.genpowcone.proofs.loops.places.ratios.Goals as goal

pub returns : goal.returns
unfolding ratio_of
returns c = c.filled.ensures ratio_of (λ x y given. search rules)
