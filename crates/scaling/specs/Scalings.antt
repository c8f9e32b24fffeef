-- Both scalings of the exponential and the power cone, as 003 computes them. Definitions only.
use Rattle.std.specs.Prelude.{ℕ, Bool, Option, Some, option_map, cond, ◌&&◌, List, eqb, Float}
use Rattle.double.specs.Operators.{◌⊖◌, ◌⊗◌, ◌⊘◌, ◌≺◌}
use Rattle.double.specs.Numbers.{#0, #1, #3, #ε, #√ε}
use Rattle.double.specs.Sizes.{abs_of}
use Rattle.algebra.specs.Vectors.{dot_of, moved_of}
use Rattle.algebra.specs.Packed.{quad_form_of, scaled_of}
use Rattle.scaling.specs.declared.primal_dual.Measures.{Measures}
use Rattle.scaling.specs.primal_dual.Block.{primal_dual_block}
use Rattle.cone.specs.Codes.{dual}
use Rattle.kinds.specs.Three.{gradient_primal_of}
use Rattle.kinds.specs.declared.three.ThreeGradient.{ThreeGradient}

-- 003 use_primal_dual_scaling, what it computes before it chooses: h and st are the dual Hessian and gradient, zt the primal gradient
unfoldable pub measure_of : List Float → List Float → List Float → List Float → List Float → Measures
measure_of h st zt s z =
    let sz = dot_of s z in
    let μ = sz ⊘ #3 in
    let μt = dot_of st zt ⊘ #3 in
    let δs = moved_of s μ st in
    let δz = moved_of z μ zt in
    record {
      dotsz = sz;
      mu = μ;
      mutilde = μt;
      ds = δs;
      dotdsz = dot_of δs δz;
      de1 = μ ⊗ μt ⊖ #1;
      de2 = quad_form_of h zt zt ⊖ #3 ⊗ μt ⊗ μt;
    }

-- 01: "Primal-dual exactly if |de1| > √ε, |de2| > ε, ⟨s,z⟩ > 0 and ⟨δs,δz⟩ > 0; a NaN fails"
unfoldable pub apart : Measures → Bool
apart m = (#√ε ≺ abs_of m.de1) && (#ε ≺ abs_of m.de2) && (#0 ≺ m.dotsz) && (#0 ≺ m.dotdsz)

-- 003 use_primal_dual_scaling: the choice. 01: "Fallback uses μ = ⟨s,z⟩/3, not the caller's μ"; the primal gradient's round count stays
-- behind
unfoldable pub chosen : List Float → List Float → List Float → List Float → ThreeGradient → List Float
chosen h st s z primal =
    let zt = primal.g in
    let m = measure_of h st zt s z in
    cond (apart m) (primal_dual_block h st zt s z m) (scaled_of m.mu h)

-- 003 update_Hs, with use_dual_scaling and use_primal_dual_scaling. 01: "strategy 1 uses the caller's". There is none where the primal
-- gradient panics
unfoldable pub update_hs_of : ℕ → Float → ℕ → Float → List Float → List Float → List Float → List Float → Option (List Float)
update_hs_of kind α strategy μ grad h s z =
    cond (eqb strategy dual) (Some (scaled_of μ h)) (option_map (chosen h grad s z) (gradient_primal_of kind α s))
