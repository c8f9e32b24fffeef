-- The formulas that a cone of any kind has, chosen by kind. Definitions only; each has the name of the Rust function.
use Rattle.std.specs.Prelude.{Option, Some, option_map, cond, List, Float, take}
use Rattle.double.specs.Operators.{at}
use Rattle.double.specs.Numbers.{#0}
use Rattle.cone.specs.declared.Cone.{Cone}
use Rattle.cone.specs.declared.Scaling.{Scaling}
use Rattle.cone.specs.Fresh.{no_three, no_wide, attempt_of}
use Rattle.cone.specs.Codes.{is_wide, by_kind}
use Rattle.cone.specs.Points.{three_of}
use Rattle.expcone.specs.Barriers as expBarriers
use Rattle.powcone.specs.Barriers as powBarriers
use Rattle.genpowcone.specs.Barriers as genBarriers
use Rattle.genpowcone.specs.DualGradient as genDual
use Rattle.kinds.specs.Three as three

-- the exponent of kind 2, and the exponents that kind 3 uses. 01: "32 exponent places, the first used first"
abbrev pub alpha_of : Cone → Float
alpha_of c = at c.exps 0

abbrev pub alphas_of : Cone → List Float
alphas_of c = take c.dim1 c.exps

-- 000, 001, 002 barrier_dual
unfoldable pub barrier_dual_of : Cone → List Float → Float
barrier_dual_of c z =
    by_kind c.kind
    (expBarriers.barrier_dual_of (three_of z))
    (powBarriers.barrier_dual_of (alpha_of c) (three_of z))
    (genBarriers.barrier_dual_of (alphas_of c) z)
    #0

-- 000, 001, 002 update_dual_grad_H, with the places of the other kinds +0; that of 002 may panic
unfoldable pub dual_grad_h_of : Cone → List Float → Option Scaling
dual_grad_h_of c z =
    cond (is_wide c.kind)
    (option_map (attempt_of c no_three) (genDual.update_dual_grad_h_of (alphas_of c) z))
    (Some (attempt_of c (three.update_dual_grad_h_of c.kind (alpha_of c) (three_of z)) no_wide))
