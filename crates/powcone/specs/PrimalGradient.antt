-- The unit start and the gradient of the power cone's primal barrier, as 001 computes them. Definitions only.
use Rattle.std.specs.Prelude.{cond, List, [], ◌∷◌, Float}
use Rattle.std.specs.Float.Ieee.{neg}
use Rattle.double.specs.Operators.{◌⊕◌, ◌⊖◌, ◌⊗◌, ◌⊘◌, ◌≺◌, at}
use Rattle.double.specs.Numbers.{#0, #1, #2, #3, #ε}
use Rattle.double.specs.Sizes.{abs_of}
use Rattle.kernels.specs.Door.{sqrt_of, log_of, powf_of}
use Rattle.algebra.specs.newton.Equations.{pow_f0, pow_f1}
use Rattle.algebra.specs.newton.Rounds.{newton_of}
use Rattle.algebra.specs.declared.newton.Solved.{Solved}
use Rattle.powcone.specs.declared.PowerGradient.{PowerGradient}

-- 001 unit_initialization: z and s alike
unfoldable pub unit_initialization_of : Float → List Float
unit_initialization_of α = sqrt_of (#1 ⊕ α) ∷ sqrt_of (#1 ⊕ (#1 ⊖ α)) ∷ #0 ∷ []

-- 001 _newton_raphson_powcone. x0 lies right of the root for most exponents other than ½, and the rounds then stop at it
unfoldable pub newton_raphson_powcone_of : Float → Float → Float → Solved
newton_raphson_powcone_of s3 φ α =
    let x0 = neg (#1 ⊘ s3) ⊕ (s3 ⊗ #2 ⊕ sqrt_of (φ ⊗ φ ⊘ (s3 ⊗ s3) ⊕ φ ⊗ #3)) ⊘ (φ ⊖ s3 ⊗ s3) in
    let t0 = neg #2 ⊗ α ⊗ log_of α ⊖ #2 ⊗ (#1 ⊖ α) ⊗ log_of (#1 ⊖ α) in
    newton_of (pow_f0 s3 φ α t0) (pow_f1 s3 α) x0

-- 001 gradient_primal: g3 takes the sign of s3
unfoldable pub signed_of : Float → Float → Float
signed_of s2 x = cond (s2 ≺ #0) (neg x) x

-- 001 gradient_primal. 01: "The primal gradient enters Newton only if |s3| is above ε"; a NaN is not. And its round count is
-- "handed back by it and by every primal gradient, 0 where Newton was not entered"
unfoldable pub gradient_primal_of : Float → List Float → PowerGradient
gradient_primal_of α s =
    let s0 = at s 0 in
    let s1 = at s 1 in
    let s2 = at s 2 in
    let φ = powf_of s0 (#2 ⊗ α) ⊗ powf_of s1 (#2 ⊖ α ⊗ #2) in
    let abs_s = abs_of s2 in
    let found = newton_raphson_powcone_of abs_s φ α in
    let g2 = signed_of s2 found.x in
    let g0 = neg (α ⊗ g2 ⊗ s2 ⊕ #1 ⊕ α) ⊘ s0 in
    let g1 = neg ((#1 ⊖ α) ⊗ g2 ⊗ s2 ⊕ #2 ⊖ α) ⊘ s1 in
    let flat = neg (#1 ⊕ α) ⊘ s0 ∷ neg (#2 ⊖ α) ⊘ s1 ∷ #0 ∷ [] in
    cond (#ε ≺ abs_s) (record { g = g0 ∷ g1 ∷ g2 ∷ []; rounds = found.rounds }) (record { g = flat; rounds = 0 })
