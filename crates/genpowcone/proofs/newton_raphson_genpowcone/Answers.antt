-- `newton_raphson_genpowcone` is its definition: the rounds at this kind's equation, from x0 as computed; the ratios stand in the first
-- places of an array. Assumes nothing.
use Rattle.std.proofs.Common.{map, length}
use lib.ListN.{length-map}
use Rattle.algebra.specs.newton.Equations.{f0_of, f1_of}
use Rattle.algebra.specs.newton.Ratios.{ratio_of}
use Rattle.cone.proofs.Points.{padded_front}
use Rattle.genpowcone.specs.PrimalGradient.{x0_of}
use Rattle.genpowcone.proofs.newton_raphson_genpowcone.Goals as goal

pub invariant_of-g : goal.invariant_of-g
invariant_of-g c =
    let α = c.args.alpha.now in
    record { ratios_of_alpha = rw (c.head.ensures, c.ratios-ratios_of_alpha.ensures) (padded_front 64 (map ratio_of α) (length α) (length-map α ratio_of)) }

pub returns : goal.returns
unfolding x0_of f0_of f1_of
returns c = rw (c.newton_raphson_onesided.ensures, c.sqrt.ensures)
