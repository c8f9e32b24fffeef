-- `higherCorrectionOf` in stages, so that the proof of `higher_correction` replaces one call at a time: what the code computes of its calls'
-- results is a function of them, and with what each call promises it is the definition. Assumes nothing.
use mathlib.Core.Path.{◌≡◌, refl}
use mathlib.Core.List.{List, [], ◌∷◌}
use Rattle.std.specs.Prelude.{Option, Some, None, option_map, unwrap_or}
use lib.Ieee.{Float, neg}
use Rattle.double.specs.Operators.{◌⊕◌, ◌⊖◌, ◌⊗◌, ◌⊘◌, at}
use Rattle.double.specs.Numbers.{#0, #½, #1, #2}
use Rattle.kernels.specs.Door.{log_of}
use Rattle.algebra.specs.Vectors.{dot_of}
use Rattle.algebra.specs.Cholesky.{factor_of, solve_of}
use Rattle.expcone.specs.Correction.{higher_correction_of}

module _ (z v u : List Float) where
  -- the gradient of ψ, with the logarithm that it begins with
  abbrev pub gψAt : Float → List Float
  gψAt gψ0 = gψ0 ∷ #1 ∷ neg (at z 0) ⊘ at z 2 ∷ []

  -- what the code makes of the logarithm and of the dot products
  unfoldable pub from_dots : Float → Float → Float → List Float
  from_dots gψ0 dotψu dotψv =
      let z0 = at z 0 in
      let z1 = at z 1 in
      let z2 = at z 2 in
      let u0 = at u 0 in
      let u2 = at u 2 in
      let v0 = at v 0 in
      let v2 = at v 2 in
      let ψ = z0 ⊗ gψ0 ⊖ z0 ⊕ z1 in
      let coef = ((u0 ⊗ (v0 ⊘ z0 ⊖ v2 ⊘ z2) ⊕ u2 ⊗ (z0 ⊗ v2 ⊘ z2 ⊖ v0) ⊘ z2) ⊗ ψ ⊖ #2 ⊗ dotψu ⊗ dotψv) ⊘ (ψ ⊗ ψ ⊗ ψ) in
      let i = #1 ⊘ (ψ ⊗ ψ) in
      let η0 =
      gψ0 ⊗ coef
      ⊕ ((#1 ⊘ ψ ⊖ #2 ⊘ z0) ⊗ u0 ⊗ v0 ⊘ (z0 ⊗ z0) ⊖ u2 ⊗ v2 ⊘ (z2 ⊗ z2) ⊘ ψ
      ⊕ dotψu ⊗ i ⊗ (v0 ⊘ z0 ⊖ v2 ⊘ z2)
      ⊕ dotψv ⊗ i ⊗ (u0 ⊘ z0 ⊖ u2 ⊘ z2)) in
      let η1 = #1 ⊗ coef in
      let η2 =
      neg z0 ⊘ z2 ⊗ coef
      ⊕ (#2 ⊗ (z0 ⊘ ψ ⊖ #1) ⊗ u2 ⊗ v2 ⊘ (z2 ⊗ z2 ⊗ z2) ⊖ (u2 ⊗ v0 ⊕ u0 ⊗ v2) ⊘ (z2 ⊗ z2) ⊘ ψ
      ⊕ dotψu ⊗ i ⊗ (z0 ⊗ v2 ⊘ (z2 ⊗ z2) ⊖ v0 ⊘ z2)
      ⊕ dotψv ⊗ i ⊗ (z0 ⊗ u2 ⊘ (z2 ⊗ z2) ⊖ u0 ⊘ z2)) in
      η0 ⊗ #½ ∷ η1 ⊗ #½ ∷ η2 ⊗ #½ ∷ []

  -- the correction from u = H⁻¹Δs on, where the calls gave what they promise
  unfoldable pub from_solved : List Float
  from_solved =
      let gψ0 = log_of (neg (at z 0) ⊘ at z 2) in
      from_dots gψ0 (dot_of u (gψAt gψ0)) (dot_of v (gψAt gψ0))

  pub from-dots
      : (gψ0 dotψu dotψv : Float)
      → gψ0 ≡ log_of (neg (at z 0) ⊘ at z 2)
      → dotψu ≡ dot_of u (gψAt gψ0)
      → dotψv ≡ dot_of v (gψAt gψ0)
      → from_dots gψ0 dotψu dotψv ≡ from_solved
  unfolding from_solved
  from-dots gψ0 dotψu dotψv l du dv = rw (du, dv, l)

-- the definition, from Cholesky's answer on
pub by-factor
    : (h z ds v : List Float)
    → higher_correction_of h z ds v ≡ unwrap_or (option_map (λ l. from_solved z v (solve_of l ds)) (factor_of h)) (#0 ∷ #0 ∷ #0 ∷ [])
unfolding higher_correction_of from_solved from_dots
by-factor h z ds v = refl

pub solved
    : (h z ds v u l : List Float) (f : Option (List Float))
    → f ≡ factor_of h
    → f ≡ Some l
    → u ≡ solve_of l ds
    → from_solved z v u ≡ higher_correction_of h z ds v
solved h z ds v u l f g e s = rw (by-factor, s, ← g, e)

pub failed
    : (h z ds v : List Float) (f : Option (List Float))
    → f ≡ factor_of h
    → f ≡ None
    → (#0 ∷ #0 ∷ #0 ∷ []) ≡ higher_correction_of h z ds v
failed h z ds v f g e = rw (by-factor, ← g, e)
