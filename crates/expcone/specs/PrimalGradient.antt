-- The unit start and the gradient of the exponential cone's primal barrier, as 000 computes them. Definitions only.
use Rattle.std.specs.Prelude.{List, [], ◌∷◌, Option, option_map, Float}
use Rattle.std.specs.Float.Ieee.{neg}
use Rattle.double.specs.Operators.{◌⊕◌, ◌⊖◌, ◌⊗◌, ◌⊘◌, at}
use Rattle.double.specs.Numbers.{#1, #start1, #start2, #start3}
use Rattle.kernels.specs.Door.{log_of}
use Rattle.expcone.specs.wright.Omega.{omega_at}

-- 000 unit_initialization: z and s alike
unfoldable pub unit_initialization_of : List Float
unit_initialization_of = neg #start1 ∷ #start2 ∷ #start3 ∷ []

-- 000 gradient_primal, from ω on
abbrev pub gradient_by : List Float → Float → List Float
gradient_by s w =
    let s1 = at s 1 in
    let s2 = at s 2 in
    let g0 = #1 ⊘ ((w ⊖ #1) ⊗ s1) in
    let g1 = g0 ⊕ g0 ⊗ log_of (w ⊗ s1 ⊘ s2) ⊖ #1 ⊘ s1 in
    let g2 = w ⊘ ((#1 ⊖ w) ⊗ s2) in
    g0 ∷ g1 ∷ g2 ∷ []

-- None where ω panics
unfoldable pub gradient_primal_of : List Float → Option (List Float)
gradient_primal_of s = option_map (gradient_by s) (omega_at s)
