-- The third-order correction of the power cone, as 001 computes it. Definitions only.
use Rattle.std.specs.Prelude.{List, [], ◌∷◌, option_map, unwrap_or, Float}
use Rattle.std.specs.Float.Ieee.{neg}
use Rattle.double.specs.Operators.{◌⊕◌, ◌⊖◌, ◌⊗◌, ◌⊘◌, at}
use Rattle.double.specs.Numbers.{#0, #½, #1, #2, #4}
use Rattle.algebra.specs.Vectors.{dot_of, shift_of}
use Rattle.algebra.specs.Packed.{mul_of}
use Rattle.algebra.specs.Cholesky.{factor_of, solve_of}
use Rattle.powcone.specs.Barriers.{dual_phi}

-- 001 higher_correction at z, with l the factor of the dual Hessian h there. 01: "a pivot not above 0 fails and makes the correction zero". The Rust keeps
-- the gradient of ψ in η, here gψ, and writes the correction over it
abbrev pub correction_by : Float → List Float → List Float → List Float → List Float → List Float
correction_by α z ds v l =
    let u = solve_of l ds in
    let z0 = at z 0 in
    let z1 = at z 1 in
    let z2 = at z 2 in
    let u0 = at u 0 in
    let u1 = at u 1 in
    let v0 = at v 0 in
    let v1 = at v 1 in
    let φ = dual_phi α z0 z1 in
    let ψ = φ ⊖ z2 ⊗ z2 in
    let gψ0 = #2 ⊗ α ⊗ φ ⊘ z0 in
    let gψ1 = #2 ⊗ (#1 ⊖ α) ⊗ φ ⊘ z1 in
    let gψ2 = neg #2 ⊗ z2 in
    let gψ = gψ0 ∷ gψ1 ∷ gψ2 ∷ [] in
    let Hψ =
    #2 ⊗ α ⊗ (#2 ⊗ α ⊖ #1) ⊗ φ ⊘ (z0 ⊗ z0)
    ∷ #4 ⊗ α ⊗ (#1 ⊖ α) ⊗ φ ⊘ (z0 ⊗ z1)
    ∷ #2 ⊗ (#1 ⊖ α) ⊗ (#1 ⊖ #2 ⊗ α) ⊗ φ ⊘ (z1 ⊗ z1)
    ∷ #0
    ∷ #0
    ∷ neg #2
    ∷ [] in
    let dotψu = dot_of u gψ in
    let dotψv = dot_of v gψ in
    let Hψv = mul_of Hψ v in
    let coef = (dot_of u Hψv ⊗ ψ ⊖ #2 ⊗ dotψu ⊗ dotψv) ⊘ (ψ ⊗ ψ ⊗ ψ) in
    let coef2 = #4 ⊗ α ⊗ (#2 ⊗ α ⊖ #1) ⊗ (#1 ⊖ α) ⊗ φ ⊗ (u0 ⊘ z0 ⊖ u1 ⊘ z1) ⊗ (v0 ⊘ z0 ⊖ v1 ⊘ z1) ⊘ ψ in
    let inv-ψ2 = #1 ⊘ (ψ ⊗ ψ) in
    let η0 = coef ⊗ gψ0 ⊖ #2 ⊗ (#1 ⊖ α) ⊗ u0 ⊗ v0 ⊘ (z0 ⊗ z0 ⊗ z0) ⊕ coef2 ⊘ z0 ⊕ at Hψv 0 ⊗ dotψu ⊗ inv-ψ2 in
    let η1 = coef ⊗ gψ1 ⊖ #2 ⊗ α ⊗ u1 ⊗ v1 ⊘ (z1 ⊗ z1 ⊗ z1) ⊖ coef2 ⊘ z1 ⊕ at Hψv 1 ⊗ dotψu ⊗ inv-ψ2 in
    let η2 = coef ⊗ gψ2 ⊕ at Hψv 2 ⊗ dotψu ⊗ inv-ψ2 in
    let Hψu = mul_of Hψ u in
    let a = dotψv ⊗ inv-ψ2 in
    (a ⊗ at Hψu 0 ⊕ #1 ⊗ η0) ⊗ #½ ∷ (a ⊗ at Hψu 1 ⊕ #1 ⊗ η1) ⊗ #½ ∷ (a ⊗ at Hψu 2 ⊕ #1 ⊗ η2) ⊗ #½ ∷ []

unfoldable pub higher_correction_of : Float → List Float → List Float → List Float → List Float → List Float
higher_correction_of α h z ds v = unwrap_or (option_map (correction_by α z ds v) (factor_of h)) (#0 ∷ #0 ∷ #0 ∷ [])

-- 001 combined_ds_shift: gradᵢ·σμ - ηᵢ, with h, z and grad of the scaling record
unfoldable pub combined_ds_shift_of : Float → List Float → List Float → List Float → List Float → List Float → Float → List Float
combined_ds_shift_of α h z grad stepz steps σμ = shift_of grad σμ (higher_correction_of α h z steps stepz)
