-- The formulas of kinds 1 and 2, chosen by kind. Definitions only; each has the name of the Rust function, whose own definition stands in
-- expcone, powcone or `powcone::correction`. α is the exponent of kind 2: kind 1 has none, and none of its formulas takes one.
-- Where the Rust panics there is no answer; that of 001 does not.
use Rattle.std.specs.Prelude.{ℕ, Option, Some, option_map, cond, List, eqb, Float, replicate}
use Rattle.double.specs.Numbers.{#0}
use Rattle.cone.specs.declared.Three.{Three}
use Rattle.expcone.specs.Barriers as expBarriers
use Rattle.expcone.specs.DualGradient as expDual
use Rattle.expcone.specs.PrimalGradient as expPrimal
use Rattle.expcone.specs.Correction as expCorrection
use Rattle.powcone.specs.PrimalGradient as powPrimal
use Rattle.powcone.specs.Barriers as powBarriers
use Rattle.powcone.specs.DualGradient as powDual
use Rattle.powcone.specs.correction.Correction as powCorrection
use Rattle.kinds.specs.declared.three.ThreeGradient.{ThreeGradient}

-- 000, 001 unit_initialization: z and s alike
unfoldable pub unit_initialization_of : ℕ → Float → List Float
unit_initialization_of kind α = cond (eqb kind 2) (powPrimal.unit_initialization_of α) expPrimal.unit_initialization_of

-- 000, 001 update_dual_grad_H: a gradient and a block, the rest of a record's numbers +0
abbrev pub plain_three : List Float → List Float → Three
plain_three grad h = record { z = replicate 3 #0; grad = grad; hdual = h; hs = replicate 6 #0 }

unfoldable pub update_dual_grad_h_of : ℕ → Float → List Float → Three
update_dual_grad_h_of kind α z =
    let pow = powDual.update_dual_grad_h_of α z in
    let exp = expDual.update_dual_grad_h_of z in
    cond (eqb kind 2) (plain_three pow.grad pow.h) (plain_three exp.grad exp.h)

-- 000, 001 gradient_primal. 01: "0 where Newton was not entered"
abbrev pub no_rounds : List Float → ThreeGradient
no_rounds g = record { g = g; rounds = 0 }

unfoldable pub gradient_primal_of : ℕ → Float → List Float → Option ThreeGradient
gradient_primal_of kind α s =
    let pow = powPrimal.gradient_primal_of α s in
    cond (eqb kind 2) (Some (record { g = pow.g; rounds = pow.rounds })) (option_map no_rounds (expPrimal.gradient_primal_of s))

-- 000, 001 barrier_primal
unfoldable pub barrier_primal_of : ℕ → Float → List Float → Option Float
barrier_primal_of kind α s = cond (eqb kind 2) (Some (powBarriers.barrier_primal_of α s)) (expBarriers.barrier_primal_of s)

-- 000, 001 compute_barrier; the step is the Rust's α
unfoldable pub compute_barrier_of : ℕ → Float → List Float → List Float → List Float → List Float → Float → Option Float
compute_barrier_of kind α z s dz ds step =
    cond (eqb kind 2) (Some (powBarriers.compute_barrier_of α z s dz ds step)) (expBarriers.compute_barrier_of z s dz ds step)

-- 000, 001 higher_correction
unfoldable pub higher_correction_of : ℕ → Float → List Float → List Float → List Float → List Float → List Float
higher_correction_of kind α h z ds v =
    cond (eqb kind 2) (powCorrection.higher_correction_of α h z ds v) (expCorrection.higher_correction_of h z ds v)

-- 000, 001 combined_ds_shift
unfoldable pub combined_ds_shift_of : ℕ → Float → List Float → List Float → List Float → List Float → List Float → Float → List Float
combined_ds_shift_of kind α h z grad stepz steps σμ =
    cond (eqb kind 2)
    (powCorrection.combined_ds_shift_of α h z grad stepz steps σμ)
    (expCorrection.combined_ds_shift_of h z grad stepz steps σμ)
