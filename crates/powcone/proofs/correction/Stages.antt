-- `higherCorrectionOf` in stages, so that the proof of `higher_correction` replaces one call at a time: what the code computes of its calls'
-- results is a function of them, and with what each call promises it is the definition. Assumes nothing.
use mathlib.Core.Path.{◌≡◌, refl}
use mathlib.Core.List.{List, [], ◌∷◌}
use Rattle.std.specs.Prelude.{Option, Some, None, option_map, unwrap_or}
use lib.Ieee.{Float, neg}
use Rattle.double.specs.Operators.{◌⊕◌, ◌⊖◌, ◌⊗◌, ◌⊘◌, at}
use Rattle.double.specs.Numbers.{#0, #½, #1, #2, #4}
use Rattle.algebra.specs.Vectors.{dot_of}
use Rattle.algebra.specs.Packed.{mul_of}
use Rattle.algebra.specs.Cholesky.{factor_of, solve_of}
use Rattle.powcone.specs.Barriers.{dual_phi}
use Rattle.powcone.specs.correction.Correction.{higher_correction_of}

-- the gradient of ψ
abbrev pub gψAt : Float → List Float → Float → List Float
gψAt α z φ = #2 ⊗ α ⊗ φ ⊘ at z 0 ∷ #2 ⊗ (#1 ⊖ α) ⊗ φ ⊘ at z 1 ∷ neg #2 ⊗ at z 2 ∷ []

-- Hψ
abbrev pub HψAt : Float → List Float → Float → List Float
HψAt α z φ =
    #2 ⊗ α ⊗ (#2 ⊗ α ⊖ #1) ⊗ φ ⊘ (at z 0 ⊗ at z 0)
    ∷ #4 ⊗ α ⊗ (#1 ⊖ α) ⊗ φ ⊘ (at z 0 ⊗ at z 1)
    ∷ #2 ⊗ (#1 ⊖ α) ⊗ (#1 ⊖ #2 ⊗ α) ⊗ φ ⊘ (at z 1 ⊗ at z 1)
    ∷ #0
    ∷ #0
    ∷ neg #2
    ∷ []

module _ (α : Float) (z v u : List Float) where
  -- what the code makes of φ and of the products
  unfoldable pub from_products : Float → Float → Float → List Float → Float → List Float → List Float
  from_products φ dotψu dotψv Hψv uHv Hψu =
      let z0 = at z 0 in
      let z1 = at z 1 in
      let u0 = at u 0 in
      let u1 = at u 1 in
      let v0 = at v 0 in
      let v1 = at v 1 in
      let ψ = φ ⊖ at z 2 ⊗ at z 2 in
      let coef = (uHv ⊗ ψ ⊖ #2 ⊗ dotψu ⊗ dotψv) ⊘ (ψ ⊗ ψ ⊗ ψ) in
      let coef2 = #4 ⊗ α ⊗ (#2 ⊗ α ⊖ #1) ⊗ (#1 ⊖ α) ⊗ φ ⊗ (u0 ⊘ z0 ⊖ u1 ⊘ z1) ⊗ (v0 ⊘ z0 ⊖ v1 ⊘ z1) ⊘ ψ in
      let i = #1 ⊘ (ψ ⊗ ψ) in
      let η0 = coef ⊗ at (gψAt α z φ) 0 ⊖ #2 ⊗ (#1 ⊖ α) ⊗ u0 ⊗ v0 ⊘ (z0 ⊗ z0 ⊗ z0) ⊕ coef2 ⊘ z0 ⊕ at Hψv 0 ⊗ dotψu ⊗ i in
      let η1 = coef ⊗ at (gψAt α z φ) 1 ⊖ #2 ⊗ α ⊗ u1 ⊗ v1 ⊘ (z1 ⊗ z1 ⊗ z1) ⊖ coef2 ⊘ z1 ⊕ at Hψv 1 ⊗ dotψu ⊗ i in
      let η2 = coef ⊗ at (gψAt α z φ) 2 ⊕ at Hψv 2 ⊗ dotψu ⊗ i in
      let a = dotψv ⊗ i in
      (a ⊗ at Hψu 0 ⊕ #1 ⊗ η0) ⊗ #½ ∷ (a ⊗ at Hψu 1 ⊕ #1 ⊗ η1) ⊗ #½ ∷ (a ⊗ at Hψu 2 ⊕ #1 ⊗ η2) ⊗ #½ ∷ []

  -- the correction from u = H⁻¹Δs on, where the calls gave what they promise
  unfoldable pub from_solved : List Float
  from_solved =
      let φ = dual_phi α (at z 0) (at z 1) in
      let Hψ = HψAt α z φ in
      let Hψv = mul_of Hψ v in
      from_products φ (dot_of u (gψAt α z φ)) (dot_of v (gψAt α z φ)) Hψv (dot_of u Hψv) (mul_of Hψ u)

  pub from-products
      : (φ dotψu dotψv uHv : Float) (Hψv Hψu : List Float)
      → φ ≡ dual_phi α (at z 0) (at z 1)
      → dotψu ≡ dot_of u (gψAt α z φ)
      → dotψv ≡ dot_of v (gψAt α z φ)
      → Hψv ≡ mul_of (HψAt α z φ) v
      → uHv ≡ dot_of u Hψv
      → Hψu ≡ mul_of (HψAt α z φ) u
      → from_products φ dotψu dotψv Hψv uHv Hψu ≡ from_solved
  unfolding from_solved
  from-products φ dotψu dotψv uHv Hψv Hψu p du dv mv uh mu = rw (du, dv, mu, uh, mv, p)

-- the definition, from Cholesky's answer on
pub by-factor
    : (α : Float) (h z ds v : List Float)
    → higher_correction_of α h z ds v ≡ unwrap_or (option_map (λ l. from_solved α z v (solve_of l ds)) (factor_of h)) (#0 ∷ #0 ∷ #0 ∷ [])
unfolding higher_correction_of from_solved from_products
by-factor α h z ds v = refl

pub solved
    : (α : Float) (h z ds v u l : List Float) (f : Option (List Float))
    → f ≡ factor_of h
    → f ≡ Some l
    → u ≡ solve_of l ds
    → from_solved α z v u ≡ higher_correction_of α h z ds v
solved α h z ds v u l f g e s = rw (by-factor, s, ← g, e)

pub failed
    : (α : Float) (h z ds v : List Float) (f : Option (List Float))
    → f ≡ factor_of h
    → f ≡ None
    → (#0 ∷ #0 ∷ #0 ∷ []) ≡ higher_correction_of α h z ds v
failed α h z ds v f g e = rw (by-factor, ← g, e)
