-- The third-order correction and the combined shift of the exponential cone, as 000 computes them. Definitions only.
use Rattle.std.specs.Prelude.{List, [], ◌∷◌, option_map, unwrap_or, Float}
use Rattle.std.specs.Float.Ieee.{neg}
use Rattle.double.specs.Operators.{◌⊕◌, ◌⊖◌, ◌⊗◌, ◌⊘◌, at}
use Rattle.double.specs.Numbers.{#0, #½, #1, #2}
use Rattle.kernels.specs.Door.{log_of}
use Rattle.algebra.specs.Vectors.{dot_of, shift_of}
use Rattle.algebra.specs.Cholesky.{factor_of, solve_of}

-- 000 higher_correction at z, with l the factor of the dual Hessian h there. 01: "a pivot not above 0 fails and makes the correction zero". The Rust keeps
-- the gradient of ψ in η, here gψ, and writes the correction over it
abbrev pub correction_by : List Float → List Float → List Float → List Float → List Float
correction_by z ds v l =
    let u = solve_of l ds in
    let z0 = at z 0 in
    let z1 = at z 1 in
    let z2 = at z 2 in
    let u0 = at u 0 in
    let u2 = at u 2 in
    let v0 = at v 0 in
    let v2 = at v 2 in
    let gψ1 = #1 in
    let gψ2 = neg z0 ⊘ z2 in
    let gψ0 = log_of gψ2 in
    let gψ = gψ0 ∷ gψ1 ∷ gψ2 ∷ [] in
    let ψ = z0 ⊗ gψ0 ⊖ z0 ⊕ z1 in
    let dotψu = dot_of u gψ in
    let dotψv = dot_of v gψ in
    let coef = ((u0 ⊗ (v0 ⊘ z0 ⊖ v2 ⊘ z2) ⊕ u2 ⊗ (z0 ⊗ v2 ⊘ z2 ⊖ v0) ⊘ z2) ⊗ ψ ⊖ #2 ⊗ dotψu ⊗ dotψv) ⊘ (ψ ⊗ ψ ⊗ ψ) in
    let inv-ψ2 = #1 ⊘ (ψ ⊗ ψ) in
    let η0 =
    gψ0 ⊗ coef
    ⊕ ((#1 ⊘ ψ ⊖ #2 ⊘ z0) ⊗ u0 ⊗ v0 ⊘ (z0 ⊗ z0) ⊖ u2 ⊗ v2 ⊘ (z2 ⊗ z2) ⊘ ψ
    ⊕ dotψu ⊗ inv-ψ2 ⊗ (v0 ⊘ z0 ⊖ v2 ⊘ z2)
    ⊕ dotψv ⊗ inv-ψ2 ⊗ (u0 ⊘ z0 ⊖ u2 ⊘ z2)) in
    let η1 = gψ1 ⊗ coef in
    let η2 =
    gψ2 ⊗ coef
    ⊕ (#2 ⊗ (z0 ⊘ ψ ⊖ #1) ⊗ u2 ⊗ v2 ⊘ (z2 ⊗ z2 ⊗ z2) ⊖ (u2 ⊗ v0 ⊕ u0 ⊗ v2) ⊘ (z2 ⊗ z2) ⊘ ψ
    ⊕ dotψu ⊗ inv-ψ2 ⊗ (z0 ⊗ v2 ⊘ (z2 ⊗ z2) ⊖ v0 ⊘ z2)
    ⊕ dotψv ⊗ inv-ψ2 ⊗ (z0 ⊗ u2 ⊘ (z2 ⊗ z2) ⊖ u0 ⊘ z2)) in
    η0 ⊗ #½ ∷ η1 ⊗ #½ ∷ η2 ⊗ #½ ∷ []

unfoldable pub higher_correction_of : List Float → List Float → List Float → List Float → List Float
higher_correction_of h z ds v = unwrap_or (option_map (correction_by z ds v) (factor_of h)) (#0 ∷ #0 ∷ #0 ∷ [])

-- 000 combined_ds_shift
unfoldable pub combined_ds_shift_of : List Float → List Float → List Float → List Float → List Float → Float → List Float
combined_ds_shift_of h z grad dz ds σμ = shift_of grad σμ (higher_correction_of h z ds dz)
