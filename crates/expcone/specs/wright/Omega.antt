-- The Wright omega function, as 000 _wright_omega computes it. Definitions only.
use Rattle.std.specs.Prelude.{cond, List, Option, Some, None, Float}
use Rattle.arith.specs.Turns.{iter}
use Rattle.double.specs.Operators.{◌⊕◌, ◌⊖◌, ◌⊗◌, ◌⊘◌, ◌≺◌, at}
use Rattle.double.specs.Numbers.{#0, #½, #1, #1½, #2, #3, #8, #13, #16, #72, #192, #3072, #61440, #π}
use Rattle.kernels.specs.Door.{log_of}
use Rattle.expcone.specs.declared.wright.Approx.{Approx}

-- 000 _wright_omega, "Initialize with the taylor series"
unfoldable pub taylor_start : Float → Float
taylor_start z =
    let zm1 = z ⊖ #1 in
    let p2 = zm1 ⊗ zm1 in
    let p3 = p2 ⊗ zm1 in
    let p4 = p3 ⊗ zm1 in
    let p5 = p4 ⊗ zm1 in
    #1 ⊕ zm1 ⊗ #½ ⊕ p2 ⊗ (#1 ⊘ #16) ⊖ p3 ⊗ (#1 ⊘ #192) ⊖ p4 ⊗ (#1 ⊘ #3072) ⊕ p5 ⊗ (#13 ⊘ #61440)

-- 000 _wright_omega, the other start, l the logarithm of z
unfoldable pub log_start : Float → Float → Float
log_start z l =
    let zinv = #1 ⊘ z in
    let q1 = l ⊗ zinv in
    let q2 = q1 ⊗ zinv in
    let q3 = q2 ⊗ zinv in
    z ⊖ l ⊕ q1 ⊕ q2 ⊗ (l ⊘ #2 ⊖ #1) ⊕ q3 ⊗ (l ⊗ l ⊘ #3 ⊖ l ⊗ #1½ ⊕ #1)

-- 01: "Omega uses its series below the rounded 1+π and the logarithmic start from there on"
unfoldable pub start_of : Float → Float
start_of z = cond (z ≺ #1 ⊕ #π) (taylor_start z) (log_start z (log_of z))

-- 000 _wright_omega, one refinement of w and its residual r: the new residual is made of the new w, the old w + 1 and the old r
unfoldable pub refine_of : Approx → Approx
refine_of a =
    let w = a.w in
    let r = a.r in
    let wp1 = w ⊕ #1 in
    let t = wp1 ⊗ (wp1 ⊕ r ⊗ #2 ⊘ #3) in
    let w' = w ⊗ (#1 ⊕ r ⊘ wp1 ⊗ (t ⊖ r ⊗ #½) ⊘ (t ⊖ r)) in
    let r4 = r ⊗ r ⊗ r ⊗ r in
    let wp16 = wp1 ⊗ wp1 ⊗ wp1 ⊗ wp1 ⊗ wp1 ⊗ wp1 in
    record { w = w'; r = (w' ⊗ w' ⊗ #2 ⊖ w' ⊗ #8 ⊖ #1) ⊘ (wp16 ⊗ #72) ⊗ r4 }

-- 01: "exactly two refinements", from the start w
unfoldable pub refined_of : Float → Float → Float
refined_of z w = (iter (λ _ a. refine_of a) (record { w = w; r = z ⊖ w ⊖ log_of w }) 2).w

-- 000 _wright_omega; None where it panics. 01, number 6: "Wright omega argument below 0". A NaN is not below 0
unfoldable pub omega_of : Float → Option Float
omega_of z = cond (z ≺ #0) None (Some (refined_of z (start_of z)))

-- 000 barrier_primal and gradient_primal: ω(1 - s1/s2 - log(s2/s3)), counting from 1
unfoldable pub omega_at : List Float → Option Float
omega_at s = omega_of (#1 ⊖ at s 0 ⊘ at s 1 ⊖ log_of (at s 1 ⊘ at s 2))
