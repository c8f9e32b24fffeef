-- The unit start and the gradient of the generalized power cone's primal barrier, as 002 computes them. Definitions only.
use Rattle.std.specs.Prelude.{cond, List, ◌++◌, length, take, drop, Float}
use Rattle.std.specs.Float.Ieee.{neg}
use Rattle.double.specs.Operators.{◌⊕◌, ◌⊖◌, ◌⊗◌, ◌⊘◌, ◌≺◌}
use Rattle.double.specs.Numbers.{#1, #ε}
use Rattle.kernels.specs.Door.{sqrt_of}
use Rattle.algebra.specs.Vectors.{sumsq_of, norm_of}
use Rattle.algebra.specs.newton.Equations.{gen_f0, gen_f1}
use Rattle.algebra.specs.newton.Rounds.{newton_of}
use Rattle.algebra.specs.declared.newton.Solved.{Solved}
use Rattle.cone.specs.Points.{padded}
use Rattle.genpowcone.specs.loops.Folds.{primal_phi}
use Rattle.genpowcone.specs.loops.Places.{times, unit_head, gradient_head, flat_head}
use Rattle.genpowcone.specs.declared.WideGradient.{WideGradient}

-- 002 unit_initialization: z and s alike; the tail is +0
unfoldable pub unit_initialization_of : List Float → List Float
unit_initialization_of α = padded 64 (unit_head α)

-- 01: "Generalized ψ is 1/sumsq of the exponents"
unfoldable pub psi_of : List Float → Float
psi_of α = #1 ⊘ sumsq_of α

-- 002 _newton_raphson_genpowcone, x0: r is norm_r
unfoldable pub x0_of : Float → Float → Float → Float
x0_of r φ ψ = neg (#1 ⊘ r) ⊕ (ψ ⊗ r ⊕ sqrt_of ((φ ⊘ r ⊘ r ⊕ ψ ⊗ ψ ⊖ #1) ⊗ φ)) ⊘ (φ ⊖ r ⊗ r)

-- 002 _newton_raphson_genpowcone: p is the head of the point
unfoldable pub newton_raphson_genpowcone_of : Float → List Float → Float → List Float → Float → Solved
newton_raphson_genpowcone_of r p φ α ψ = newton_of (gen_f0 r α p) (gen_f1 r α) (x0_of r φ ψ)

-- 002 gradient_primal at s: p is its head, r its tail. 01: "when norm_r is above ε", which a NaN is not; "The primal gradient's tail is
-- g1/norm_r times the tail of the given point", else +0; the rounds are "handed back by it and by every primal gradient, 0 where Newton was
-- not entered"
unfoldable pub gradient_primal_of : List Float → List Float → WideGradient
gradient_primal_of α s =
    let p = take (length α) s in
    let r = drop (length α) s in
    let norm = norm_of r in
    let found = newton_raphson_genpowcone_of norm p (primal_phi α p) α (psi_of α) in
    let g1 = found.x in
    cond
    (#ε ≺ norm)
    (record { g = padded 64 (gradient_head α p g1 norm ++ times (g1 ⊘ norm) r); rounds = found.rounds })
    (record { g = padded 64 (flat_head α p); rounds = 0 })
