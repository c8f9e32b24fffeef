-- The primal-dual scaling as 003 computes it where its tests hold. Definitions only.
use Rattle.std.specs.Prelude.{ℕ, List, [], ◌∷◌, get_or, Float}
use Rattle.double.specs.Operators.{◌⊕◌, ◌⊖◌, ◌⊗◌, ◌⊘◌, at}
use Rattle.double.specs.Numbers.{#3}
use Rattle.algebra.specs.Vectors.{normalize_of}
use Rattle.algebra.specs.Packed.{mul_of, norm_fro_of, outer_of}
use Rattle.scaling.specs.declared.primal_dual.Measures.{Measures}

-- 003 use_primal_dual_scaling, tmp = μt·st - H·zt
unfoldable pub less_at : Float → List Float → List Float → List Float
less_at μt st hzt = μt ⊗ at st 0 ⊖ at hzt 0 ∷ μt ⊗ at st 1 ⊖ at hzt 1 ∷ μt ⊗ at st 2 ⊖ at hzt 2 ∷ []

-- row i, column j of an array of arrays
abbrev pub at2 : List (List Float) → ℕ → ℕ → Float
at2 m i j = at (get_or m i []) j

-- 003 use_primal_dual_scaling, a place of Hs as a workspace: H less the sum of the two quotients
unfoldable pub less_both : Float → Float → Float → Float → Float
less_both h ss tt de2 = h ⊖ (ss ⊘ #3 ⊕ tt ⊘ de2)

-- 003 use_primal_dual_scaling, Hs as a workspace: ss and tt are the outer products of st and of tmp
unfoldable pub rest_at : List Float → List (List Float) → List (List Float) → Float → List Float
rest_at h ss tt de2 =
    less_both (at h 0) (at2 ss 0 0) (at2 tt 0 0) de2
    ∷ less_both (at h 1) (at2 ss 0 1) (at2 tt 0 1) de2
    ∷ less_both (at h 2) (at2 ss 1 1) (at2 tt 1 1) de2
    ∷ less_both (at h 3) (at2 ss 0 2) (at2 tt 0 2) de2
    ∷ less_both (at h 4) (at2 ss 1 2) (at2 tt 1 2) de2
    ∷ less_both (at h 5) (at2 ss 2 2) (at2 tt 2 2) de2
    ∷ []

-- 003 use_primal_dual_scaling, t
unfoldable pub frobenius_of : List Float → List Float → List Float → Float → Float → Float → Float
frobenius_of h st zt μ μt de2 =
    let tmp = less_at μt st (mul_of h zt) in
    μ ⊗ norm_fro_of (rest_at h (outer_of st st) (outer_of tmp tmp) de2)

-- 01: "Its axis is the cross product of z and the primal gradient, three components"
unfoldable pub cross_of : List Float → List Float → List Float
cross_of z zt =
    at z 1 ⊗ at zt 2 ⊖ at z 2 ⊗ at zt 1
    ∷ at z 2 ⊗ at zt 0 ⊖ at z 0 ⊗ at zt 2
    ∷ at z 0 ⊗ at zt 1 ⊖ at z 1 ⊗ at zt 0
    ∷ []

unfoldable pub axis_of : List Float → List Float → List Float
axis_of z zt = normalize_of (cross_of z zt)

-- 003 use_primal_dual_scaling, a place of Hs = s·s'/⟨s,z⟩ + δs·δs'/⟨δs,δz⟩ + t·axis·axis'
unfoldable pub sum_place : Float → Float → Float → Float → Float → Float
sum_place ss sz dd δsz aa = ss ⊘ sz ⊕ dd ⊘ δsz ⊕ aa

-- 003 use_primal_dual_scaling, Hs, from the three outer products
unfoldable pub sum_at : List (List Float) → Float → List (List Float) → Float → List (List Float) → List Float
sum_at ss sz dd δsz aa =
    sum_place (at2 ss 0 0) sz (at2 dd 0 0) δsz (at2 aa 0 0)
    ∷ sum_place (at2 ss 0 1) sz (at2 dd 0 1) δsz (at2 aa 0 1)
    ∷ sum_place (at2 ss 1 1) sz (at2 dd 1 1) δsz (at2 aa 1 1)
    ∷ sum_place (at2 ss 0 2) sz (at2 dd 0 2) δsz (at2 aa 0 2)
    ∷ sum_place (at2 ss 1 2) sz (at2 dd 1 2) δsz (at2 aa 1 2)
    ∷ sum_place (at2 ss 2 2) sz (at2 dd 2 2) δsz (at2 aa 2 2)
    ∷ []

-- 003 use_primal_dual_scaling where the tests hold. t times the axis first, then times its components: "t * axis_z[i] * axis_z[j]"
unfoldable pub primal_dual_block : List Float → List Float → List Float → List Float → List Float → Measures → List Float
primal_dual_block h st zt s z m =
    let t = frobenius_of h st zt m.mu m.mutilde m.de2 in
    let axis = axis_of z zt in
    let ta = t ⊗ at axis 0 ∷ t ⊗ at axis 1 ∷ t ⊗ at axis 2 ∷ [] in
    sum_at (outer_of s s) m.dotsz (outer_of m.ds m.ds) m.dotdsz (outer_of ta axis)
