-- The barriers of the power cone, as 001 computes them. Definitions only.
use Rattle.std.specs.Prelude.{List, Float}
use Rattle.std.specs.Float.Ieee.{neg}
use Rattle.double.specs.Operators.{◌⊕◌, ◌⊖◌, ◌⊗◌, ◌⊘◌, at}
use Rattle.double.specs.Numbers.{#0, #1, #2, #3}
use Rattle.kernels.specs.Door.{log_of, powf_of}
use Rattle.algebra.specs.Vectors.{moved_of}
use Rattle.powcone.specs.PrimalGradient.{gradient_primal_of}

-- (z1/α)^2α · (z2/(1-α))^(2-2α), with which 001 begins barrier_dual, higher_correction and update_dual_grad_H
unfoldable pub dual_phi : Float → Float → Float → Float
dual_phi α z0 z1 = powf_of (z0 ⊘ α) (#2 ⊗ α) ⊗ powf_of (z1 ⊘ (#1 ⊖ α)) (#2 ⊖ #2 ⊗ α)

-- 001 barrier_dual
unfoldable pub barrier_dual_of : Float → List Float → Float
barrier_dual_of α z =
    let arg1 = dual_phi α (at z 0) (at z 1) ⊖ at z 2 ⊗ at z 2 in
    neg (log_of arg1) ⊖ (#1 ⊖ α) ⊗ log_of (at z 0) ⊖ α ⊗ log_of (at z 1)

-- 001 barrier_primal; the 3 is taken off before the last sum
unfoldable pub barrier_primal_of : Float → List Float → Float
barrier_primal_of α s =
    let g = (gradient_primal_of α s).g in
    let g0 = at g 0 in
    let g1 = at g 1 in
    let g2 = at g 2 in
    #0 ⊕ log_of (powf_of (neg g0 ⊘ α) (#2 ⊗ α) ⊗ powf_of (neg g1 ⊘ (#1 ⊖ α)) (#2 ⊖ α ⊗ #2) ⊖ g2 ⊗ g2)
    ⊕ (#1 ⊖ α) ⊗ log_of (neg g0)
    ⊕ (α ⊗ log_of (neg g1) ⊖ #3)

-- 001 compute_barrier after the step a: the dual part first
unfoldable pub compute_barrier_of : Float → List Float → List Float → List Float → List Float → Float → Float
compute_barrier_of α z s dz ds a = #0 ⊕ barrier_dual_of α (moved_of z a dz) ⊕ barrier_primal_of α (moved_of s a ds)
