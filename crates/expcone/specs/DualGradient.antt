-- The gradient and the Hessian of the exponential cone's dual barrier, as 000 computes them. Definitions only.
use Rattle.std.specs.Prelude.{List, [], ◌∷◌, Float}
use Rattle.std.specs.Float.Ieee.{neg}
use Rattle.double.specs.Operators.{◌⊕◌, ◌⊖◌, ◌⊗◌, ◌⊘◌, at}
use Rattle.double.specs.Numbers.{#1}
use Rattle.kernels.specs.Door.{log_of}
use Rattle.algebra.specs.declared.sym3.GradH.{GradH}

-- 000 update_dual_grad_H at z. 01: "Packed order is (0,0),(0,1),(1,1),(0,2),(1,2),(2,2)"
unfoldable pub update_dual_grad_h_of : List Float → GradH
update_dual_grad_h_of z =
    let z0 = at z 0 in
    let z1 = at z 1 in
    let z2 = at z 2 in
    let l = log_of (neg z2 ⊘ z0) in
    let r = neg z0 ⊗ l ⊖ z0 ⊕ z1 in
    let c2 = #1 ⊘ r in
    record {
      grad = c2 ⊗ l ⊖ #1 ⊘ z0 ∷ neg c2 ∷ (c2 ⊗ z0 ⊖ #1) ⊘ z2 ∷ [];
      h =
          (r ⊗ r ⊖ z0 ⊗ r ⊕ l ⊗ l ⊗ z0 ⊗ z0) ⊘ (r ⊗ z0 ⊗ z0 ⊗ r)
          ∷ neg l ⊘ (r ⊗ r)
          ∷ #1 ⊘ (r ⊗ r)
          ∷ (z1 ⊖ z0) ⊘ (r ⊗ r ⊗ z2)
          ∷ neg z0 ⊘ (r ⊗ r ⊗ z2)
          ∷ (r ⊗ r ⊖ z0 ⊗ r ⊕ z0 ⊗ z0) ⊘ (r ⊗ r ⊗ z2 ⊗ z2)
          ∷ [];
    }
