-- The gradient and the Hessian of the power cone's dual barrier, as 001 computes them. Definitions only.
use Rattle.std.specs.Prelude.{List, [], ◌∷◌, Float}
use Rattle.std.specs.Float.Ieee.{neg}
use Rattle.double.specs.Operators.{◌⊕◌, ◌⊖◌, ◌⊗◌, ◌⊘◌, at}
use Rattle.double.specs.Numbers.{#1, #2, #4}
use Rattle.algebra.specs.declared.sym3.GradH.{GradH}
use Rattle.powcone.specs.Barriers.{dual_phi}

-- 001 update_dual_grad_H at z. 01: "Packed order is (0,0),(0,1),(1,1),(0,2),(1,2),(2,2)"
unfoldable pub update_dual_grad_h_of : Float → List Float → GradH
update_dual_grad_h_of α z =
    let z0 = at z 0 in
    let z1 = at z 1 in
    let z2 = at z 2 in
    let φ = dual_phi α z0 z1 in
    let ψ = φ ⊖ z2 ⊗ z2 in
    let gψ0 = #2 ⊗ α ⊗ φ ⊘ (z0 ⊗ ψ) in
    let gψ1 = #2 ⊗ (#1 ⊖ α) ⊗ φ ⊘ (z1 ⊗ ψ) in
    let gψ2 = neg #2 ⊗ z2 ⊘ ψ in
    record {
      grad =
          neg #2 ⊗ α ⊗ φ ⊘ (z0 ⊗ ψ) ⊖ (#1 ⊖ α) ⊘ z0
          ∷ neg #2 ⊗ (#1 ⊖ α) ⊗ φ ⊘ (z1 ⊗ ψ) ⊖ α ⊘ z1
          ∷ #2 ⊗ z2 ⊘ ψ
          ∷ [];
      h =
          gψ0 ⊗ gψ0 ⊖ #2 ⊗ α ⊗ (#2 ⊗ α ⊖ #1) ⊗ φ ⊘ (z0 ⊗ z0 ⊗ ψ) ⊕ (#1 ⊖ α) ⊘ (z0 ⊗ z0)
          ∷ gψ0 ⊗ gψ1 ⊖ #4 ⊗ α ⊗ (#1 ⊖ α) ⊗ φ ⊘ (z0 ⊗ z1 ⊗ ψ)
          ∷ gψ1 ⊗ gψ1 ⊖ #2 ⊗ (#1 ⊖ α) ⊗ (#1 ⊖ #2 ⊗ α) ⊗ φ ⊘ (z1 ⊗ z1 ⊗ ψ) ⊕ α ⊘ (z1 ⊗ z1)
          ∷ gψ0 ⊗ gψ2
          ∷ gψ1 ⊗ gψ2
          ∷ gψ2 ⊗ gψ2 ⊕ #2 ⊘ ψ
          ∷ [];
    }
