-- p, q, r, d1 and d2 of the generalized power cone, by which Hs = μ·(D + pp' - qq' - rr'): how 002 computes and applies them. Definitions
-- only.
use Rattle.std.specs.Prelude.{ℕ, List, ◌++◌, length, take, drop, replicate, Float}
use Rattle.std.specs.Float.Ieee.{neg}
use Rattle.double.specs.Operators.{◌⊕◌, ◌⊖◌, ◌⊗◌, ◌⊘◌}
use Rattle.double.specs.Numbers.{#0, #2}
use Rattle.kernels.specs.Door.{sqrt_of}
use Rattle.algebra.specs.Vectors.{dot_of}
use Rattle.cone.specs.Points.{padded}
use Rattle.cone.specs.declared.Wide.{Wide}
use Rattle.genpowcone.specs.loops.Places.{times, scaled, tau_of, grad_head, diagonal_of, product_head, product_tail, finished}
use Rattle.genpowcone.specs.declared.Coefficients.{Coefficients}

-- 002 update_dual_grad_H: p0, p1, q0 and r1, with n2 = norm2w
unfoldable pub coefficients_of : Float → Float → Coefficients
coefficients_of φ n2 =
    let ζ = φ ⊖ n2 in
    let p0 = sqrt_of (φ ⊗ (φ ⊕ n2) ⊘ #2) in
    record { p0 = p0; p1 = neg #2 ⊗ φ ⊘ p0; q0 = sqrt_of (ζ ⊗ φ ⊘ #2); r1 = #2 ⊗ sqrt_of (ζ ⊘ (φ ⊕ n2)) }

-- 002 update_dual_grad_H from ζ on; w is z's tail, and dim1 places of τ are in use. z and mu of the record are not its to set: they are +0
-- here
unfoldable pub rank3_at : List Float → List Float → Float → Float → Wide
rank3_at α z φ n2 =
    let ζ = φ ⊖ n2 in
    let dim1 = length α in
    let w = drop dim1 z in
    let τ = padded 32 (tau_of α z) in
    let c = coefficients_of φ n2 in
    record {
      z = replicate 64 #0;
      mu = #0;
      grad = padded 64 (grad_head α z φ ζ ++ times (#2 ⊘ ζ) w);
      p = padded 64 (times (c.p0 ⊘ ζ) (take dim1 τ) ++ times (c.p1 ⊘ ζ) w);
      q = padded 32 (scaled (take dim1 τ) (c.q0 ⊘ ζ));
      r = padded 32 (times (c.r1 ⊘ ζ) w);
      d1 = padded 32 (diagonal_of α z τ φ ζ);
      d2 = #2 ⊘ ζ;
    }

-- 01: "`get_Hs` gives μ·d1, then μ·d2 in every tail place". d1 is the list of its used places
unfoldable pub get_hs_of : Float → List Float → Float → ℕ → List Float
get_hs_of μ d1 d2 dim2 = padded 64 (times μ d1 ++ replicate dim2 (μ ⊗ d2))

-- 002 mul_Hs, with the record's numbers one by one
unfoldable pub mul_hs_at : List Float → List Float → List Float → List Float → Float → Float → ℕ → List Float → List Float
mul_hs_at p q r d1 d2 μ dim1 x =
    let x1 = take dim1 x in
    let x2 = drop dim1 x in
    let y1 = product_head d1 q (dot_of q x1) x1 in
    let y2 = product_tail d2 r (dot_of r x2) x2 in
    padded 64 (finished (y1 ++ y2) (dot_of p x) p μ)

-- 002 mul_Hs by the record's numbers w
unfoldable pub mul_hs_of : Wide → ℕ → List Float → List Float
mul_hs_of w dim1 x = mul_hs_at w.p w.q w.r w.d1 w.d2 w.mu dim1 x
