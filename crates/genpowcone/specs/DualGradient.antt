-- The dual gradient and Hessian of the generalized power cone, as 002 computes them. Definitions only.
use Rattle.std.specs.Prelude.{Option, Some, None, cond, List, length, drop, Float}
use Rattle.double.specs.Operators.{◌⊖◌, ◌≺◌}
use Rattle.double.specs.Numbers.{#0}
use Rattle.algebra.specs.Vectors.{sumsq_of}
use Rattle.cone.specs.declared.Wide.{Wide}
use Rattle.genpowcone.specs.loops.Folds.{dual_phi}
use Rattle.genpowcone.specs.Rank3.{rank3_at}

-- 002 update_dual_grad_H. 01, number 6: "ζ not above 0 in the generalized `update_dual_grad_H`"; a NaN is not above 0. None is that refusal
unfoldable pub update_dual_grad_h_of : List Float → List Float → Option Wide
update_dual_grad_h_of α z =
    let φ = dual_phi α z in
    let n2 = sumsq_of (drop (length α) z) in
    cond (#0 ≺ (φ ⊖ n2)) (Some (rank3_at α z φ n2)) None
