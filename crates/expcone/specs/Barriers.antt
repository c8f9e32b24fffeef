-- The barriers of the exponential cone, as 000 computes them. Definitions only.
use Rattle.std.specs.Prelude.{List, Option, option_map, Float}
use Rattle.std.specs.Float.Ieee.{neg}
use Rattle.double.specs.Operators.{◌⊕◌, ◌⊖◌, ◌⊗◌, ◌⊘◌, at}
use Rattle.double.specs.Numbers.{#0, #1, #2, #3}
use Rattle.kernels.specs.Door.{log_of}
use Rattle.algebra.specs.Vectors.{moved_of}
use Rattle.expcone.specs.wright.Omega.{omega_at}

-- 000 barrier_primal, from ω on
abbrev pub barrier_by : List Float → Float → Float
barrier_by s ω =
    let w = (ω ⊖ #1) ⊗ (ω ⊖ #1) ⊘ ω in
    neg (log_of w) ⊖ log_of (at s 1) ⊗ #2 ⊖ log_of (at s 2) ⊖ #3

-- None where ω panics
unfoldable pub barrier_primal_of : List Float → Option Float
barrier_primal_of s = option_map (barrier_by s) (omega_at s)

-- 000 barrier_dual: one logarithm is of the product -z3·z1, counting from 1
unfoldable pub barrier_dual_of : List Float → Float
barrier_dual_of z =
    let l = log_of (neg (at z 2) ⊘ at z 0) in
    neg (log_of (neg (at z 2) ⊗ at z 0)) ⊖ log_of (at z 1 ⊖ at z 0 ⊖ at z 0 ⊗ l)

-- 000 compute_barrier: the dual barrier is added to +0 first
unfoldable pub compute_barrier_of : List Float → List Float → List Float → List Float → Float → Option Float
compute_barrier_of z s dz ds α =
    let dual = barrier_dual_of (moved_of z α dz) in
    option_map (λ primal. #0 ⊕ dual ⊕ primal) (barrier_primal_of (moved_of s α ds))
