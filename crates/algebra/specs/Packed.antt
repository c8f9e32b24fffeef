-- Symmetric 3x3 blocks. 01: "Packed order is (0,0),(0,1),(1,1),(0,2),(1,2),(2,2)". Definitions only.
use Rattle.std.specs.Prelude.{List, [], ◌∷◌, Float}
use Rattle.double.specs.Operators.{◌⊕◌, ◌⊗◌, at}
use Rattle.double.specs.Numbers.{#2}
use Rattle.kernels.specs.Door.{sqrt_of}
use Rattle.algebra.specs.Vectors.{dot_of}

-- 01: "Block product rows run left to right from the first product"
unfoldable pub mul_of : List Float → List Float → List Float
mul_of h x =
    at h 0 ⊗ at x 0 ⊕ at h 1 ⊗ at x 1 ⊕ at h 3 ⊗ at x 2
    ∷ at h 1 ⊗ at x 0 ⊕ at h 2 ⊗ at x 1 ⊕ at h 4 ⊗ at x 2
    ∷ at h 3 ⊗ at x 0 ⊕ at h 4 ⊗ at x 1 ⊕ at h 5 ⊗ at x 2
    ∷ []

-- 01: "quad form is y·(Hx)"
unfoldable pub quad_form_of : List Float → List Float → List Float → Float
quad_form_of h y x = dot_of y (mul_of h x)

-- 01: "Frobenius: (d0²+d2²+d5²) + 2·(d1²+d3²+d4²), rooted"
unfoldable pub norm_fro_of : List Float → Float
norm_fro_of d =
    sqrt_of
    ((at d 0 ⊗ at d 0 ⊕ at d 2 ⊗ at d 2 ⊕ at d 5 ⊗ at d 5)
    ⊕ #2 ⊗ (at d 1 ⊗ at d 1 ⊕ at d 3 ⊗ at d 3 ⊕ at d 4 ⊗ at d 4))

-- 003 scaled_from: c times each place
unfoldable pub scaled_of : Float → List Float → List Float
scaled_of c h = c ⊗ at h 0 ∷ c ⊗ at h 1 ∷ c ⊗ at h 2 ∷ c ⊗ at h 3 ∷ c ⊗ at h 4 ∷ c ⊗ at h 5 ∷ []

-- 01: "a local array of arrays for the outer products". Row i holds x_i times each component of y
unfoldable pub outer_of : List Float → List Float → List (List Float)
outer_of x y =
    (at x 0 ⊗ at y 0 ∷ at x 0 ⊗ at y 1 ∷ at x 0 ⊗ at y 2 ∷ [])
    ∷ (at x 1 ⊗ at y 0 ∷ at x 1 ⊗ at y 1 ∷ at x 1 ⊗ at y 2 ∷ [])
    ∷ (at x 2 ⊗ at y 0 ∷ at x 2 ⊗ at y 1 ∷ at x 2 ⊗ at y 2 ∷ [])
    ∷ []
