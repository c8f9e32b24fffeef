-- The lists that 002's loops write. An array has such a list in its first places and +0 behind it: `padded`, of cone. A zip ends with its
-- shorter list, as the Rust's izip does. Definitions only.
use Rattle.std.specs.Prelude.{List, map, Float}
use mathlib.Core.List.{zip_with}
use Rattle.std.specs.Float.Ieee.{neg}
use Rattle.double.specs.Operators.{◌⊕◌, ◌⊖◌, ◌⊗◌, ◌⊘◌}
use Rattle.double.specs.Numbers.{#1, #2}
use Rattle.kernels.specs.Door.{sqrt_of}
use Rattle.cone.specs.Points.{padded}
use Rattle.genpowcone.specs.declared.loops.places.Heads.{Heads}

-- c·x, and x·c
abbrev pub times : Float → List Float → List Float
times c xs = map (λ (x : Float). c ⊗ x) xs

abbrev pub scaled : List Float → Float → List Float
scaled xs c = map (λ (x : Float). x ⊗ c) xs

-- 002 unit_initialization, the head
abbrev pub unit_head : List Float → List Float
unit_head α = map (λ (a : Float). sqrt_of (#1 ⊕ a)) α

-- 002 gradient_primal, the head: where Newton was entered, and where it was not
abbrev pub gradient_head : List Float → List Float → Float → Float → List Float
gradient_head α p g1 norm = zip_with (λ (a x : Float). neg (#1 ⊕ a ⊕ a ⊗ g1 ⊗ norm) ⊘ x) α p

abbrev pub flat_head : List Float → List Float → List Float
flat_head α p = zip_with (λ (a x : Float). neg (#1 ⊕ a) ⊘ x) α p

-- 002 update_dual_grad_H, the first loop: τ, and the gradient's head
abbrev pub tau_of : List Float → List Float → List Float
tau_of α z = zip_with (λ (a x : Float). #2 ⊗ a ⊘ x) α z

abbrev pub grad_head : List Float → List Float → Float → Float → List Float
grad_head α z φ ζ = zip_with (λ (a x : Float). neg (#2 ⊗ a ⊘ x) ⊗ φ ⊘ ζ ⊖ (#1 ⊖ a) ⊘ x) α z

unfoldable pub heads_of : List Float → List Float → Float → Float → Heads
heads_of α z φ ζ = record { tau = padded 32 (tau_of α z); grad = padded 64 (grad_head α z φ ζ) }

-- 002 update_dual_grad_H, the diagonal d1: τφ/(ζz) + (1-α)/(zz)
abbrev pub diagonal_of : List Float → List Float → List Float → Float → Float → List Float
diagonal_of α z τ φ ζ =
    zip_with ◌⊕◌
    (zip_with (λ (t x : Float). t ⊗ φ ⊘ (ζ ⊗ x)) τ z)
    (zip_with (λ (a x : Float). (#1 ⊖ a) ⊘ (x ⊗ x)) α z)

-- 002 mul_Hs: "y1 .= K.d1 .* x1 - coef_q.*K.q" and "y2 .= K.d2 .* x2 - coef_r.*K.r", then what axpby and scale make of y
abbrev pub product_head : List Float → List Float → Float → List Float → List Float
product_head d1 q coefq x = zip_with ◌⊖◌ (zip_with ◌⊗◌ d1 x) (times coefq q)

abbrev pub product_tail : Float → List Float → Float → List Float → List Float
product_tail d2 r coefr x = zip_with ◌⊖◌ (times d2 x) (times coefr r)

abbrev pub finished : List Float → Float → List Float → Float → List Float
finished y coefp p μ = zip_with (λ (a b : Float). (coefp ⊗ a ⊕ #1 ⊗ b) ⊗ μ) p y
