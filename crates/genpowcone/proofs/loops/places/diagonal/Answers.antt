-- `diagonal` meets its contract: its closure gives what the definition says of each place. Assumes nothing.
use Rattle.std.proofs.Common.{rules, ◌≡◌, List, [], ◌∷◌, refl, ap, ◌∙◌}
use mathlib.Core.List.{zip_with}
use lib.Ieee.{Float}
use Rattle.double.specs.Operators.{◌⊕◌, ◌⊖◌, ◌⊗◌, ◌⊘◌}
use Rattle.double.specs.Numbers.{#1}
use Rattle.cone.specs.Points.{padded, zip_three}
use Rattle.genpowcone.specs.loops.Places.{diagonal_of}
use Rattle.genpowcone.proofs.loops.places.diagonal.Goals as goal

module _ (φ ζ : Float) where
  abbrev turn : Float → Float → Float → Float
  turn t a x = t ⊗ φ ⊘ (ζ ⊗ x) ⊕ (#1 ⊖ a) ⊘ (x ⊗ x)

  zipped : (τ α z : List Float) → zip_three turn τ α z ≡ diagonal_of α z τ φ ζ
  unfolding zip_with
  zipped [] α z = refl
  zipped (t ∷ τ) [] [] = refl
  zipped (t ∷ τ) [] (x ∷ z) = refl
  zipped (t ∷ τ) (a ∷ α) [] = refl
  zipped (t ∷ τ) (a ∷ α) (x ∷ z) = ap (λ (l : List Float). turn t a x ∷ l) (zipped τ α z)

pub returns : goal.returns
returns c =
    let a = c.args in
    c.filled_by_three.ensures (turn a.phi a.zeta) (λ x y z w given. search rules)
    ∙ ap (padded 32) (zipped a.phi a.zeta a.tau.now a.alpha.now a.z.now)
