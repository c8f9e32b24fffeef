-- `f0` meets its contract: the equation's variant picks the definition's case. Assumes nothing.
use Rattle.algebra.specs.newton.Equations.{f0_of}
use Rattle.algebra.proofs.newton.f0.Goals as goal

pub returns-in-Power : goal.returns-in-Power
unfolding f0_of
returns-in-Power c = rw c.in-Power.is c.powcone_f0.ensures

pub returns-in-Generalized : goal.returns-in-Generalized
unfolding f0_of
returns-in-Generalized c = rw c.in-Generalized.is c.genpowcone_f0.ensures
