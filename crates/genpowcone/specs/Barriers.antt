-- The barriers of the generalized power cone, as 002 computes them. Definitions only.
use Rattle.std.specs.Prelude.{◌+◌, List, map, length, take, pos, Float}
use Rattle.std.specs.Float.{binary64}
use Rattle.std.specs.Float.Ieee.{neg, of_int}
use Rattle.double.specs.Operators.{◌⊕◌, ◌⊖◌}
use Rattle.double.specs.Numbers.{#0}
use Rattle.kernels.specs.Door.{log_of}
use Rattle.algebra.specs.Vectors.{moved_of}
use Rattle.genpowcone.specs.loops.Folds.{less_logs}
use Rattle.genpowcone.specs.Feasible.{dual_residue}
use Rattle.genpowcone.specs.PrimalGradient.{gradient_primal_of}

-- 002 barrier_dual: -log of the residue, then log zᵢ·(1-αᵢ) taken off in turn
unfoldable pub barrier_dual_of : List Float → List Float → Float
barrier_dual_of α z = less_logs (neg (log_of (dual_residue α z).res)) α z

-- 002 barrier_primal at s, by the primal gradient g, of which as many places are in use. 01: "Degree is dim1+1"
unfoldable pub barrier_primal_of : List Float → List Float → Float
barrier_primal_of α s =
    let g = take (length s) (gradient_primal_of α s).g in
    neg (barrier_dual_of α (map neg g)) ⊖ of_int binary64 (pos (length α + 1))

-- 002 compute_barrier after the step a: the primal part first
unfoldable pub compute_barrier_of : List Float → List Float → List Float → List Float → List Float → Float → Float
compute_barrier_of α z s dz ds a = #0 ⊕ barrier_primal_of α (moved_of s a ds) ⊕ barrier_dual_of α (moved_of z a dz)
