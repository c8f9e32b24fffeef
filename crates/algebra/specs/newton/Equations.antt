-- The equations f(x) = 0 that the primal gradients of kinds 2 and 3 solve, and their derivatives. Definitions only.
use Rattle.std.specs.Prelude.{ℕ, min, List, map, length, Float}
use Rattle.std.specs.Float.Ieee.{neg}
use Rattle.arith.specs.Turns.{iter}
use Rattle.double.specs.Operators.{◌⊕◌, ◌⊖◌, ◌⊗◌, ◌⊘◌, at}
use Rattle.double.specs.Numbers.{#1, #2}
use Rattle.kernels.specs.Door.{log_of}
unfoldable pub use Rattle.algebra.specs.newton.Ratios.{ratio_of}
use Rattle.algebra.specs.declared.newton.equation.Equation.{Equation}
use Rattle.algebra.specs.declared.newton.equation.Equation.TheVariants.{Power, Generalized}

-- 001 _newton_raphson_powcone, f0, with the logarithm l of φ
unfoldable pub pow_f0_at : Float → Float → Float → Float → Float → Float
pow_f0_at s3 l α t0 x =
    let t1 = x ⊗ x in
    let t2 = x ⊗ #2 ⊘ s3 in
    #2 ⊗ α ⊗ log_of (#2 ⊗ α ⊗ t1 ⊕ (#1 ⊕ α) ⊗ t2)
    ⊕ #2 ⊗ (#1 ⊖ α) ⊗ log_of (#2 ⊗ (#1 ⊖ α) ⊗ t1 ⊕ (#2 ⊖ α) ⊗ t2)
    ⊖ l
    ⊖ log_of (t1 ⊕ t2)
    ⊖ #2 ⊗ log_of t2
    ⊕ t0

unfoldable pub pow_f0 : Float → Float → Float → Float → Float → Float
pow_f0 s3 φ α t0 x = pow_f0_at s3 (log_of φ) α t0 x

-- 001 _newton_raphson_powcone, f1
unfoldable pub pow_f1 : Float → Float → Float → Float
pow_f1 s3 α x =
    let t1 = x ⊗ x in
    let t2 = #2 ⊗ x ⊘ s3 in
    α ⊗ α ⊗ #2 ⊘ (α ⊗ x ⊕ (#1 ⊕ α) ⊘ s3)
    ⊕ (#1 ⊖ α) ⊗ #2 ⊗ (#1 ⊖ α) ⊘ ((#1 ⊖ α) ⊗ x ⊕ (#2 ⊖ α) ⊘ s3)
    ⊖ (x ⊕ #1 ⊘ s3) ⊗ #2 ⊘ (t1 ⊕ t2)

-- 002 _newton_raphson_genpowcone, f0: the fold over the exponents and the logarithms l of the point's heads p, r the norm of the point's
-- tail
abbrev pub gen_f0_turn : Float → List Float → List Float → Float → ℕ → Float → Float
gen_f0_turn r α l x i f = f ⊕ #2 ⊗ at α i ⊗ (log_of (x ⊗ r ⊕ ratio_of (at α i)) ⊖ at l i)

unfoldable pub gen_f0_at : Float → List Float → List Float → Float → Float
gen_f0_at r α l x = iter (gen_f0_turn r α l x) (neg (log_of (#2 ⊗ x ⊘ r ⊕ x ⊗ x))) (min (length α) (length l))

unfoldable pub gen_f0 : Float → List Float → List Float → Float → Float
gen_f0 r α p x = gen_f0_at r α (map log_of p) x

-- 002 _newton_raphson_genpowcone, f1
abbrev pub gen_f1_turn : Float → List Float → Float → ℕ → Float → Float
gen_f1_turn r α x i f = f ⊕ #2 ⊗ at α i ⊗ r ⊘ (r ⊗ x ⊕ ratio_of (at α i))

unfoldable pub gen_f1 : Float → List Float → Float → Float
gen_f1 r α x = iter (gen_f1_turn r α x) (neg (#2 ⊗ x ⊕ #2 ⊘ r) ⊘ (x ⊗ x ⊕ #2 ⊗ x ⊘ r)) (length α)

-- 01: "Closures become a choice by cone kind"
unfoldable pub f0_of : Equation → Float → Float
f0_of (Power s3 l α t0) x = pow_f0_at s3 l α t0 x
f0_of (Generalized g) x = gen_f0_at g.normr g.alpha.now g.logs.now x

unfoldable pub f1_of : Equation → Float → Float
f1_of (Power s3 l α t0) x = pow_f1 s3 α x
f1_of (Generalized g) x = gen_f1 g.normr g.alpha.now x
