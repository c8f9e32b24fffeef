-- The record that an update makes, from the cone and the call's other arguments alone. Definitions only.
use Rattle.std.specs.Prelude.{ℕ, Option, option_map, cond, List, Float}
use Rattle.cone.specs.Codes.{is_wide}
use Rattle.cone.specs.declared.Cone.{Cone}
use Rattle.cone.specs.declared.Wide.{Wide}
use Rattle.cone.specs.declared.Three.{Three}
use Rattle.cone.specs.declared.Scaling.{Scaling}
use Rattle.cone.specs.Fresh.{no_three, no_wide, attempt_of}
use Rattle.cone.specs.Points.{three_of, padded}
use Rattle.genpowcone.specs.DualGradient as genDual
use Rattle.kinds.specs.Three.{update_dual_grad_h_of}
use Rattle.kinds.specs.Cones.{alpha_of, alphas_of}
use Rattle.scaling.specs.Scalings.{update_hs_of}

-- 000, 001 update_scaling
abbrev pub three_at : Three → List Float → List Float → Three
three_at dual z hs = record { z = z; grad = dual.grad; hdual = dual.hdual; hs = hs }

unfoldable pub new_three : Cone → List Float → List Float → Float → ℕ → Option Scaling
new_three c s z μ strategy =
    let dual = update_dual_grad_h_of c.kind (alpha_of c) z in
    option_map (λ hs. attempt_of c (three_at dual z hs) no_wide) (update_hs_of c.kind (alpha_of c) strategy μ dual.grad dual.hdual s z)

-- 002 update_scaling: z and μ beside what update_dual_grad_H makes
abbrev pub wide_at : Wide → List Float → Float → Wide
wide_at w z μ = record { z = z; mu = μ; grad = w.grad; p = w.p; q = w.q; r = w.r; d1 = w.d1; d2 = w.d2 }

unfoldable pub new_wide : Cone → List Float → Float → Option Scaling
new_wide c z μ =
    option_map (λ dual. attempt_of c no_three (wide_at dual (padded 64 z) μ)) (genDual.update_dual_grad_h_of (alphas_of c) z)

unfoldable pub new_record_of : Cone → List Float → List Float → Float → ℕ → Option Scaling
new_record_of c s z μ strategy = cond (is_wide c.kind) (new_wide c z μ) (new_three c (three_of s) (three_of z) μ strategy)
