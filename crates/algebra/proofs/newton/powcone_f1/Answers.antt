-- `powcone_f1` meets its contract: it is the definition's text. Assumes nothing.
use Rattle.std.proofs.Common.{refl}
use Rattle.algebra.specs.newton.Equations.{pow_f1}
use Rattle.algebra.proofs.newton.powcone_f1.Goals as goal

pub returns : goal.returns
unfolding pow_f1
returns c = refl
