-- `newton_raphson_powcone` is its definition: the rounds at this kind's equation, from x0 and with t0 as computed. Assumes nothing.
use Rattle.algebra.specs.newton.Equations.{pow_f0, f0_of, f1_of}
use Rattle.powcone.specs.PrimalGradient.{newton_raphson_powcone_of}
use Rattle.powcone.proofs.newton_raphson_powcone.Goals as goal

pub returns : goal.returns
unfolding newton_raphson_powcone_of pow_f0 f0_of f1_of
returns c =
    rw (
      c.newton_raphson_onesided.ensures,
      c.log-logphi.ensures,
      c.log-2.ensures,
      c.log.ensures,
      c.sqrt.ensures,
    )
