-- `powcone_f0` meets its contract: the definition's text, with four logarithms. Assumes nothing.
use Rattle.algebra.specs.newton.Equations.{pow_f0_at}
use Rattle.algebra.proofs.newton.powcone_f0.Goals as goal

pub returns : goal.returns
unfolding pow_f0_at
returns c =
    rw
    (c.log-4.ensures, c.log-3.ensures, c.log-2.ensures, c.log.ensures)
